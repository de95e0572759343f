-- What a replica sends on when it commits or completes a row, and that it sends nothing of that kind at other signals.
use Rattle.std.proofs.Common.{◌≡◌, ◌⊎◌, ℕ, List, Bool, true, false, refl, sym, ap, ◌∙◌, subst, ◌≤◌, arith, inl, inr}
use Rattle.std.specs.Prelude.{◌-◌, ◌==◌, ◌&&◌, if◌then◌else◌, nat_le, nat_lt}
use Rattle.sig_core.specs.declared.member.Member.{Member}
use Rattle.sig_core.specs.declared.member.TxId.{TxId}
use Rattle.sig_core.specs.declared.outs.Outgoing.{Outgoing}
use Rattle.sig_core.specs.declared.signal.Body.{Body}
use Rattle.sig_core.specs.declared.signal.Body.TheVariants.{Host, Client, Chain}
use Rattle.sig_core.specs.declared.signal.chain.ChainSignal.TheVariants.{Commit, Committed, Complete}
use Rattle.sig_core.specs.declared.signal.client.ClientSignal.TheVariants.{TcCommitConf}
use Rattle.sig_core.specs.declared.signal.host.HostSignal.TheVariants.{Continue}
use Rattle.sig_core.specs.declared.signal.host.Work.TheVariants as work
use Rattle.lqh_block.specs.Commit as commit
use Rattle.lqh_block.specs.declared.request.Request.{Request}
use Rattle.lqh_block.specs.Lqh.{lqh_table}
use Rattle.lqh_block.specs.State.{LqhState, freed_lock, go_on, go_on_if}
use Rattle.lqh_block.proofs.EachLqh.{RequestSends, lqh_sends_each}
use Rattle.lqh_block.proofs.LqhForms.{commit_forms}
use Rattle.run_theory.proofs.Tally.{and_few}
use Rattle.run_theory.specs.Lists.{Each}
use Rattle.run_theory.proofs.Pasts.{each_map}
use Rattle.sig_core.specs.declared.place.BlockId.TheVariants as block
use Rattle.sig_core.specs.declared.place.Place.{Place}
use Rattle.sig_core.specs.Chain.{node_at}
use Rattle.sig_core.specs.Place.{coordinator_of, rows_of}
use Rattle.sig_core.specs.Step.{to_place}
use Rattle.sig_core.specs.Same.{same_key, same_tx}
use Rattle.host_laws.proofs.hosts.SendKinds.{are_of, each_of}
use Rattle.host_laws.proofs.rows.Operations.{is_lqh}
use Rattle.run_theory.specs.Counts.{one_if}
use Rattle.host_laws.proofs.api.Wishes.{is_tc}
use Rattle.run_laws.proofs.hosts.TcOwn.{AreSilent}
use Rattle.run_laws.proofs.fades.Signals.{Tells, cover, is_part, is_sign, part_cover, part_tells, part_weight}
use Rattle.run_laws.proofs.fades.Signals.{sign_part}
use Rattle.run_laws.proofs.fades.Signals.{weight}
use Rattle.run_laws.proofs.transit.Weighing.{in_sends, weigh, weigh_none}

-- the signal commits or completes no row, and no coordinator goes on by it
abbrev pub is_plain : Body → Bool
is_plain (Chain (Commit tx key epoch chain at)) = false
is_plain (Chain (Committed tx key)) = false
is_plain (Chain (Complete tx key chain at)) = false
is_plain (Client (TcCommitConf tx epoch)) = false
is_plain (Host (Continue (work.Transaction tx) at)) = false
is_plain _ = true

pub plain_sign : (tx : TxId) (body : Body) → is_plain body ≡ true → is_sign tx body ≡ false
plain_sign tx (Chain (Commit other key epoch chain at)) e = cc
plain_sign tx (Chain (Committed other key)) e = cc
plain_sign tx (Chain (Complete other key chain at)) e = cc
plain_sign tx (Client (TcCommitConf other epoch)) e = cc
plain_sign tx (Host (Continue (work.Transaction other) at)) e = cc
plain_sign tx _ e = refl

pub plain_silent : (tx : TxId) (sends : List Outgoing) → are_of is_plain sends ≡ true → AreSilent tx sends
plain_silent tx sends plain = each_of is_plain (λ (o : Outgoing). is_sign tx o.body ≡ false)
    (λ o e. plain_sign tx o.body e) sends plain

-- a row of a transaction is committed or completed
abbrev is_row_end : Body → Bool
is_row_end (Chain (Commit tx key epoch chain at)) = true
is_row_end (Chain (Complete tx key chain at)) = true
is_row_end _ = false

-- The last commit of a key comes, the one at its primary.
pub record IsLast (tx : TxId) (key : List ℕ) (body : Body) : Type 0 where
  pub one : TxId
  pub own : List ℕ
  pub epoch : ℕ
  pub chain : List Member
  pub at : ℕ
  pub is : body ≡ Chain (Commit one own epoch chain at)
  pub same_one : same_tx one tx ≡ true
  pub same_own : same_key own key ≡ true
  pub last : (at == 0) ≡ true

module _ (s : LqhState) (tx : TxId) where
  -- What is sent is plain, or tells of a commit, or passes a commit or a completion on.
  sends_each : (P : Outgoing → Type 0) (body : Body) → ((o : Outgoing) → is_plain o.body ≡ true → P o)
      → ((one : TxId) (own : List ℕ) (epoch : ℕ) (chain : List Member) (at : ℕ)
      → body ≡ Chain (Commit one own epoch chain at) → (at == 0) ≡ true
      → P (to_place (coordinator_of one) (Chain (Committed one own))))
      → ((one : TxId) (own : List ℕ) (epoch : ℕ) (chain : List Member) (at : ℕ)
      → body ≡ Chain (Commit one own epoch chain at) → (at == 0) ≡ false
      → P (to_place (rows_of (node_at chain (at - 1))) (Chain (Commit one own epoch chain (at - 1)))))
      → ((one : TxId) (own : List ℕ) (chain : List Member) (at : ℕ)
      → body ≡ Chain (Complete one own chain at)
      → P (to_place (rows_of (node_at chain (at - 1))) (Chain (Complete one own chain (at - 1)))))
      → Each P (lqh_table s body).effects.sends
  sends_each P body plain committed commits completes =
      lqh_sends_each P s body (record {
        asked = λ r is. request r;
        waited = λ at r is. request r;
        grants_more = plain _ refl;
        expires_more = plain _ refl;
        commits_on = λ one own epoch chain at is behind. commits one own epoch chain at is behind;
        committed = λ one own epoch chain at is first. committed one own epoch chain at is first;
        completes_on = λ one own chain at is behind. completes one own chain at is;
        completed = λ one own chain at is first. plain _ refl;
        aborted = λ one own is. plain _ refl;
        gives_up = λ one own is. plain _ refl;
        times_out = λ one own. plain _ refl;
        waits = λ one own ahead is there. plain _ refl;
        dumps = λ at rows next is. plain _ refl;
      })
    where
      request : (r : Request) → RequestSends P r
      request r = record {
        log_full = λ used reserved need. plain _ refl;
        table_full = λ rows. plain _ refl;
        answers = λ a. plain _ refl;
        passes = λ image next is. plain _ refl;
      }

  other_silent : (body : Body) → is_row_end body ≡ false → AreSilent tx (lqh_table s body).effects.sends
  other_silent body e =
      sends_each (λ (o : Outgoing). is_sign tx o.body ≡ false) body (λ o plain. plain_sign tx o.body plain)
      (λ one own epoch chain at is first. absurd (let both : true ≡ false = sym (ap is_row_end is) ∙ e in cc))
      (λ one own epoch chain at is behind. absurd (let both : true ≡ false = sym (ap is_row_end is) ∙ e in cc))
      (λ one own chain at is. absurd (let both : true ≡ false = sym (ap is_row_end is) ∙ e in cc))

  -- behind a commit the replica goes on with who is granted the lock
  serving_none : (w : Outgoing → ℕ) (node : ℕ) (b : Bool) → ((o : Outgoing) → is_plain o.body ≡ true → w o ≡ 0)
      → weigh w (go_on_if node work.Granted b) ≡ 0
  serving_none w node true none = omega (arith, none (go_on node work.Granted) refl)
  serving_none w node false none = refl

  plain_part : (o : Outgoing) → is_plain o.body ≡ true → is_part tx o.body ≡ false
  plain_part o e = sign_part tx o.body (plain_sign tx o.body e)

  -- a commit is passed on as one, or answered
  commit_weigh : (other : TxId) (key : List ℕ) (epoch : ℕ) (chain : List Member) (at : ℕ) (w : Outgoing → ℕ)
      → ((o : Outgoing) → is_plain o.body ≡ true → w o ≡ 0)
      → weigh w (commit.commit_row s other key epoch chain at).effects.sends
      ≡ (if at == 0 then w (to_place (coordinator_of other) (Chain (Committed other key))) else
      w (to_place (rows_of (node_at chain (at - 1))) (Chain (Commit other key epoch chain (at - 1)))))
  commit_weigh other key epoch chain at w plain =
      commit_forms (λ step. weigh w step.effects.sends ≡ sent (at == 0)) s other key epoch chain at (record {
        last = λ had st markers applies first. omega (
          arith,
          serving_none w s.node (nat_lt 0 (freed_lock s other key).granted) plain,
          ap sent first,
        );
        passes = λ had st markers applies first. omega (arith, ap sent first);
      })
    where
      sent : Bool → ℕ
      sent b =
          if b then w (to_place (coordinator_of other) (Chain (Committed other key))) else
          w (to_place (rows_of (node_at chain (at - 1))) (Chain (Commit other key epoch chain (at - 1))))

  rest_weighs : (count : ℕ) (body : Body) → is_row_end body ≡ false
      → in_sends (weight tx count) (lqh_table s body).effects.sends ≡ 0
  rest_weighs count body e =
      weigh_none (λ (o : Outgoing). weight tx count o.to o.body) (lqh_table s body).effects.sends
      (each_map (λ (o : Outgoing). is_sign tx o.body ≡ false) (λ (o : Outgoing). weight tx count o.to o.body ≡ 0)
      (lqh_table s body).effects.sends (λ o f. part_weight tx count o.to o.body (sign_part tx o.body f))
      (other_silent body e))

  -- a completion tells of no commit
  complete_each : (P : Outgoing → Type 0) (other : TxId) (own : List ℕ) (chain : List Member) (at : ℕ)
      → ((o : Outgoing) → is_plain o.body ≡ true → P o)
      → (((one : TxId) (key : List ℕ) (to : List Member) (place : ℕ)
      → Chain (Complete other own chain at) ≡ Chain (Complete one key to place)
      → P (to_place (rows_of (node_at to (place - 1))) (Chain (Complete one key to (place - 1))))))
      → Each P (lqh_table s (Chain (Complete other own chain at))).effects.sends
  complete_each P other own chain at plain next =
      sends_each P (Chain (Complete other own chain at)) plain (λ one key epoch to place is first. cc)
      (λ one key epoch to place is behind. cc) next

  -- what a replica sends on weighs no more
  pub lqh_weighs : (count : ℕ) (to : Place) (body : Body)
      → in_sends (weight tx count) (lqh_table s body).effects.sends ≤ weight tx count to body
  lqh_weighs count to (Chain (Commit other key epoch chain at)) =
      omega (
        arith,
        commit_weigh other key epoch chain at (λ o. weight tx count o.to o.body)
            (λ o e. part_weight tx count o.to o.body (plain_part o e)),
        by (at == 0),
      )
    where
      by : (b : Bool) → (if b then one_if (same_tx other tx) else one_if (same_tx other tx)) ≡ one_if (same_tx other tx)
      by true = refl
      by false = refl
  lqh_weighs count to (Chain (Complete other key chain at)) =
      omega (
        arith,
        weigh_none (λ (o : Outgoing). weight tx count o.to o.body)
            (lqh_table s (Chain (Complete other key chain at))).effects.sends
            (complete_each (λ o. weight tx count o.to o.body ≡ 0) other key chain at
            (λ o e. part_weight tx count o.to o.body (plain_part o e)) (λ one own on place is. refl)),
      )
  lqh_weighs count to body = omega (arith, rest_weighs count body refl)

  -- each commit that isn't the last of its key leads to another
  pub lqh_covers : (key : List ℕ) (i : ℕ) (to : Place) (body : Body) → to.block ≡ block.Lqh
      → (cover tx key i to body ≤ in_sends (cover tx key i) (lqh_table s body).effects.sends) ⊎ IsLast tx key body
  lqh_covers key i to (Chain (Commit other own epoch chain at)) home =
      by (at == 0) refl (same_tx other tx) refl (same_key own key) refl
    where
      Sent : ℕ
      Sent = in_sends (cover tx key i) (commit.commit_row s other own epoch chain at).effects.sends

      weighs : Sent ≡ (if at == 0 then 0 else one_if (same_tx other tx && same_key own key))
      weighs = commit_weigh other own epoch chain at (λ o. cover tx key i o.to o.body)
          (λ o e. part_cover tx key i o.to o.body (plain_part o e))

      none : (a b c : Bool) → (b && c) ≡ false → one_if (a && (b && c)) ≡ 0
      none true b c e = ap one_if e
      none false b c e = refl

      off_right : (b c : Bool) → c ≡ false → (b && c) ≡ false
      off_right true c e = e
      off_right false c e = refl

      by : (b : Bool) → (at == 0) ≡ b → (x : Bool) → same_tx other tx ≡ x → (y : Bool) → same_key own key ≡ y
          → (one_if (is_lqh to.block && (same_tx other tx && same_key own key)) ≤ Sent) ⊎ IsLast tx key
          (Chain (Commit other own epoch chain at))
      by false e x p y q =
          inl (omega (
            arith,
            weighs,
            ap (λ b. if b then 0 else one_if (same_tx other tx && same_key own key)) e,
            and_few
                (is_lqh to.block) (same_tx other tx && same_key own key),
          ))
      by true e true p true q =
          inr (record {
            one = other;
            own = own;
            epoch = epoch;
            chain = chain;
            at = at;
            is = refl;
            same_one =
                p;
            same_own = q;
            last = e;
          })
      by true e true p false q =
          inl (omega (
            arith,
            none (is_lqh to.block) (same_tx other tx) (same_key own key)
                (off_right (same_tx other tx) (same_key own key) q),
          ))
      by true e false p y q =
          inl (omega (
            arith,
            none (is_lqh to.block) (same_tx other tx) (same_key own key)
                (ap (λ b. b && same_key own key) p),
          ))
  lqh_covers key i to (Host (Continue (work.Transaction other) at)) home =
      inl (omega (arith, ap (λ b. one_if ((is_tc b && (to.node == tx.tc)) && (same_tx other tx && nat_le at i))) home))
  lqh_covers key i to _ home = inl (omega arith)

  -- what signals tell goes on
  pub lqh_tells : (Spread SpreadOn : List ℕ → List Member → ℕ → Type 0) (AtAll : List ℕ → Type 0) (body : Body)
      → Tells tx Spread AtAll body
      → ((one : TxId) (own : List ℕ) (epoch : ℕ) (chain : List Member) (at : ℕ)
      → body ≡ Chain (Commit one own epoch chain at)
      → same_tx one tx ≡ true → (at == 0) ≡ false → Spread own chain at → SpreadOn own chain (at - 1))
      → Each (λ (o : Outgoing). Tells tx SpreadOn AtAll o.body) (lqh_table s body).effects.sends
  lqh_tells Spread SpreadOn AtAll body tells next =
      sends_each (λ (o : Outgoing). Tells tx SpreadOn AtAll o.body) body
      (λ o e. part_tells tx SpreadOn AtAll o.body (plain_part o e)) (λ one own epoch chain at is first. tt)
      (λ one own epoch chain at is behind same. next one own epoch chain at is same behind (told is tells same))
      (λ one own chain at is same. told is tells same)
    where
      told : {b : Body} → body ≡ b → Tells tx Spread AtAll body → Tells tx Spread AtAll b
      told is t = subst (Tells tx Spread AtAll) is t

  -- where none of the transaction comes none is sent
  pub lqh_silent : (body : Body) → is_part tx body ≡ false → Each (λ (o : Outgoing). is_part tx o.body ≡ false)
      (lqh_table s body).effects.sends
  lqh_silent body e =
      sends_each (λ (o : Outgoing). is_part tx o.body ≡ false) body plain_part
      (λ one own epoch chain at is first. sym (ap (is_part tx) is) ∙ e)
      (λ one own epoch chain at is behind. sym (ap (is_part tx) is) ∙ e)
      (λ one own chain at is. sym (ap (is_part tx) is) ∙ e)
