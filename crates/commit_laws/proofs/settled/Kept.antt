-- What is settled stays so at an event that isn't of the transaction on the key, as long as the replicas of what it
-- wrote, and the primary of what it touched, are the same.
use Rattle.std.proofs.Common.{◌≡◌, ◌⊎◌, ◌∙◌, ℕ, Bool, true, false, List, [], ◌∷◌, refl, sym, subst, inl, inr}
use Rattle.std.proofs.lemmas.Bool.{true≢false}
use Rattle.std.specs.List.{list_any, slice_get}
use Rattle.std.specs.Prelude.{Option, None, Some}
use Rattle.run_theory.specs.Lists.{IsIn}
use Rattle.frag_map.specs.Layout.{chain_of}
use Rattle.frag_map.specs.Replicas.{is_member}
use Rattle.row_locks.specs.declared.mode.Mode.TheVariants.{Exclusive}
use Rattle.row_locks.specs.Holders.{holds, holds_enough}
use Rattle.sig_core.specs.declared.member.Member.{Member}
use Rattle.sig_core.specs.declared.member.TxId.{TxId}
use Rattle.sig_core.specs.declared.op.Answer.{Answer}
use Rattle.sig_core.specs.declared.op.Op.{Op}
use Rattle.world_core.specs.History.{is_done}
use Rattle.world_core.specs.Start.{Start, made}
use Rattle.world_core.specs.Steps.{HostStep}
use Rattle.key_laws.specs.OneKey.{AreRight, ops_on, row_after_all}
use Rattle.view_laws.proofs.ballots.MadeSets.{in_front}
use Rattle.moment_laws.specs.Moments.{IsMoment, current, logs_of}
use Rattle.moment_laws.proofs.MomentMembers.{current_made}
use Rattle.moment_laws.proofs.MomentViews.{moment_less}
use Rattle.request_laws.specs.Routed.{layout_in}
use Rattle.request_laws.proofs.routes.ChainsStay.{any_in}
use Rattle.commit_laws.specs.Commits.{CommitsStand}
use Rattle.commit_laws.specs.Going.{is_written_by}
use Rattle.commit_laws.specs.Settled.{HasImageIf, IsPrimary, IsSettledWith, is_changing, row_behind}
use Rattle.commit_laws.specs.Traces.{IsReplicaOf, record_at, replica_at}
use Rattle.commit_laws.proofs.records.KeyStays.{AreHeld}
use Rattle.commit_laws.proofs.records.MemberKeeps.{KeepsFor}
use Rattle.commit_laws.proofs.records.Replicas.{chain_replica, full_in, replica_before, self}

-- the first of a list that has somebody
pub record HasFirst (ms : List Member) : Type 0 where
  pub one : Member
  pub is : slice_get ms 0 ≡ Some one

pub first_there : (ms : List Member) (m : Member) → IsIn m ms → HasFirst ms
first_there [] m there = absurd there
first_there (one ∷ ms) m there = record { one = one; is = refl }

pub get_in : (ms : List Member) (m : Member) → slice_get ms 0 ≡ Some m → IsIn m ms
get_in [] m is = absurd cc
get_in (one ∷ ms) m is = let same : one ≡ m = cc in inl (sym same)

-- a member is in a list, or not
pub is_in_or : (ms : List Member) (m : Member) → IsIn m ms ⊎ (IsIn m ms → ⊥)
is_in_or ms m = by (list_any (is_member m) ms) refl
  where
    by : (b : Bool) → list_any (is_member m) ms ≡ b → IsIn m ms ⊎ (IsIn m ms → ⊥)
    by true is = inl (full_in ms m is)
    by false none = inr (λ there. true≢false (sym (any_in (is_member m) m ms there (self m)) ∙ none))

some_done : (ops : List (Op × Answer)) → ops ≡ [] → list_any (λ (op : Op × Answer). is_done op.1) ops ≡ true → ⊥
some_done [] none is = true≢false (sym is)
some_done (op ∷ ops) none is = absurd cc

some_changing : (ops : List (Op × Answer)) → ops ≡ [] → is_changing ops ≡ true → ⊥
some_changing [] none is = true≢false (sym is)
some_changing (op ∷ ops) none is = absurd cc

pub replica_or : (start : Start) (logs : ℕ → List HostStep) (key : List ℕ) (m : Member)
    → IsReplicaOf start logs key m ⊎ (IsReplicaOf start logs key m → ⊥)
replica_or start logs key m =
    by (is_in_or (current start logs).full m) (is_in_or (chain_of (layout_in start (current start logs)) key) m)
  where
    by : IsIn m (current start logs).full ⊎ (IsIn m (current start logs).full → ⊥)
        → IsIn m (chain_of (layout_in start (current start logs)) key)
        ⊎ (IsIn m (chain_of (layout_in start (current start logs)) key) → ⊥)
        → IsReplicaOf start logs key m ⊎ (IsReplicaOf start logs key m → ⊥)
    by (inl full) (inl chained) = inl (record { full = full; chained = chained })
    by (inl full) (inr off) = inr (λ is. off is.chained)
    by (inr off) other = inr (λ is. off is.full)

module _ (start : Start) (all : ℕ → List HostStep) (e : HostStep) (es : List HostStep)
    (moment : IsMoment start all (e ∷ es)) (commits : CommitsStand start (logs_of start es)) (key : List ℕ) (tx : TxId)
    (ops : List (Op × Answer))
  where
    abbrev old : ℕ → List HostStep
    old = logs_of start es

    abbrev new : ℕ → List HostStep
    new = logs_of start (e ∷ es)

    abbrev before : IsMoment start all es
    before = moment_less start all e es moment

    -- who is the primary of a key that was touched was so before, and who was a replica of one that was written is
    -- so still
    pub record AreSame : Type 0 where
      pub primary : (m : Member) → IsPrimary start new key m → (ops_on key ops ≡ []) ⊎ IsPrimary start old key m
      pub written : is_written_by ops key ≡ true → (m : Member) → IsReplicaOf start old key m
          → IsReplicaOf start new key m

    abbrev pub MembersKeep : Type 0
    MembersKeep =
        (m : Member) → IsIn m (made start) → KeepsFor tx (replica_at start old m key) (replica_at start new m key)

    abbrev row_of : (ℕ → List HostStep) → Member → Option (List ℕ)
    row_of logs m = (replica_at start logs m key).cell.row

    primary_replica : (m : Member) → IsPrimary start old key m → IsReplicaOf start old key m
    primary_replica m is =
        chain_replica start all es before key m
        (get_in (chain_of (layout_in start (current start old)) key) m is)

    replica_made : (m : Member) → IsReplicaOf start old key m → IsIn m (made start)
    replica_made m is = current_made start all es before m is.full

    pub primary_made : (m : Member) → IsPrimary start old key m → IsIn m (made start)
    primary_made m is = replica_made m (primary_replica m is)

    -- at a primary who has something prepared holds the lock
    pub primary_held : (m : Member) → IsPrimary start old key m → AreHeld (replica_at start old m key)
    primary_held m is u has =
        commits.prepared m
        (in_front m (current start old).full (current start old).starting (primary_replica m is).full)
        key u has.record_is has.there has.prepared

    module _ (same : AreSame) (keep : MembersKeep) (settled : IsSettledWith start old key tx ops) where
      rec_same : (m : Member) → IsIn m (made start) → record_at start new m key tx ≡ record_at start old m key tx
      rec_same m there = (keep m there).found_is

      -- its row stays where it holds the lock
      row_same : (m : Member) → IsPrimary start old key m → holds tx (replica_at start old m key).lock.holders ≡ true
          → row_of new m ≡ row_of old m
      row_same m is held = (keep m (primary_made m is)).row (primary_held m is) held

      right_now : (m : Member) → IsPrimary start new key m → AreRight (row_of new m) (ops_on key ops)
      right_now m is = by (same.primary m is)
        where
          none : ops_on key ops ≡ [] → AreRight (row_of new m) (ops_on key ops)
          none empty = subst (AreRight (row_of new m)) (sym empty) tt

          by : (ops_on key ops ≡ []) ⊎ IsPrimary start old key m → AreRight (row_of new m) (ops_on key ops)
          by (inl empty) = none empty
          by (inr was) = held (settled.held m was)
            where
              held : (ops_on key ops ≡ []) ⊎ (holds tx (replica_at start old m key).lock.holders ≡ true)
                  → AreRight (row_of new m) (ops_on key ops)
              held (inl empty) = none empty
              held (inr on) =
                  subst (λ row. AreRight row (ops_on key ops)) (sym (row_same m was on)) (settled.right m was)

      -- nobody has a record of what wasn't written
      unwritten : is_written_by ops key ≡ false → (m : Member) → IsIn m (made start)
          → record_at start old m key tx ≡ None
      unwritten off m there = by (replica_or start old key m)
        where
          by : IsReplicaOf start old key m ⊎ (IsReplicaOf start old key m → ⊥) → record_at start old m key tx ≡ None
          by (inr off_it) = settled.others m there off_it
          by (inl is) =
              let first = first_there (chain_of (layout_in start (current start old)) key) m is.chained in
              subst
              (λ b. HasImageIf b (row_behind start old key first.one ops) (record_at start old m key tx)) off
              (settled.images first.one first.is m is)

      images_now : (p : Member) → IsPrimary start new key p → (m : Member) → IsReplicaOf start new key m
          → HasImageIf (is_written_by ops key) (row_behind start new key p ops) (record_at start new m key tx)
      images_now p is m replica = by (is_written_by ops key) refl
        where
          was : IsReplicaOf start old key m
          was = replica_before start all e es moment key m replica

          there : IsIn m (made start)
          there = replica_made m was

          some : is_written_by ops key ≡ true
              → HasImageIf true (row_behind start new key p ops) (record_at start new m key tx)
          some wrote = from (same.primary p is)
            where
              image : IsPrimary start old key p → holds tx (replica_at start old p key).lock.holders ≡ true
                  → HasImageIf true (row_behind start new key p ops) (record_at start new m key tx)
              image first on =
                  subst (λ o. HasImageIf true (row_behind start new key p ops) o) (sym (rec_same m there))
                  (subst (λ row. HasImageIf true (row_after_all row (ops_on key ops)) (record_at start old m key tx))
                  (sym (row_same p first on))
                  (subst (λ b. HasImageIf b (row_behind start old key p ops) (record_at start old m key tx)) wrote
                  (settled.images p first m was)))

              held : IsPrimary start old key p
                  → (ops_on key ops ≡ []) ⊎ (holds tx (replica_at start old p key).lock.holders ≡ true)
                  → HasImageIf true (row_behind start new key p ops) (record_at start new m key tx)
              held first (inl empty) = absurd (some_done (ops_on key ops) empty wrote)
              held first (inr on) = image first on

              from : (ops_on key ops ≡ []) ⊎ IsPrimary start old key p
                  → HasImageIf true (row_behind start new key p ops) (record_at start new m key tx)
              from (inl empty) = absurd (some_done (ops_on key ops) empty wrote)
              from (inr first) = held first (settled.held p first)

          by : (b : Bool) → is_written_by ops key ≡ b
              → HasImageIf b (row_behind start new key p ops) (record_at start new m key tx)
          by true wrote = some wrote
          by false off = rec_same m there ∙ unwritten off m there

      others_now : (m : Member) → IsIn m (made start) → (IsReplicaOf start new key m → ⊥)
          → record_at start new m key tx ≡ None
      others_now m there off_it = rec_same m there ∙ by (is_written_by ops key) refl
        where
          by : (b : Bool) → is_written_by ops key ≡ b → record_at start old m key tx ≡ None
          by true wrote = settled.others m there (λ was. off_it (same.written wrote m was))
          by false off = unwritten off m there

      held_now : (p : Member) → IsPrimary start new key p
          → (ops_on key ops ≡ []) ⊎ (holds tx (replica_at start new p key).lock.holders ≡ true)
      held_now p is = by (same.primary p is)
        where
          on : IsPrimary start old key p
              → (ops_on key ops ≡ []) ⊎ (holds tx (replica_at start old p key).lock.holders ≡ true)
              → (ops_on key ops ≡ []) ⊎ (holds tx (replica_at start new p key).lock.holders ≡ true)
          on first (inl empty) = inl empty
          on first (inr held) = inr ((keep p (primary_made p first)).held held)

          by : (ops_on key ops ≡ []) ⊎ IsPrimary start old key p
              → (ops_on key ops ≡ []) ⊎ (holds tx (replica_at start new p key).lock.holders ≡ true)
          by (inl empty) = inl empty
          by (inr first) = on first (settled.held p first)

      pub settled_kept : IsSettledWith start new key tx ops
      settled_kept = record {
        right = right_now;
        images = images_now;
        others = others_now;
        held = held_now;
        exclusive = λ p is changing. by p changing (same.primary p is);
      }
        where
          by : (p : Member) → is_changing (ops_on key ops) ≡ true → (ops_on key ops ≡ []) ⊎ IsPrimary start old key p
              → holds_enough tx Exclusive (replica_at start new p key).lock.holders ≡ true
          by p changing (inl empty) = absurd (some_changing (ops_on key ops) empty changing)
          by p changing (inr first) =
              (keep p (primary_made p first)).exclusive (settled.exclusive p first changing)
