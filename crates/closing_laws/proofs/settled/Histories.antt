-- Whoever is decided in a cut, and applied there, has its entry in the history of that cut.
use Rattle.std.proofs.Common.{◌≡◌, ◌⊎◌, ◌∙◌, ◌++◌, cond, ℕ, zero, suc, Bool, true, false, List, [], ◌∷◌, filter, sym}
use Rattle.std.proofs.Common.{ap, subst, inl, inr}
use Rattle.std.specs.List.{list_any}
use Rattle.run_theory.proofs.Pasts.{in_past, past_self, past_trans}
use Rattle.run_theory.specs.Cuts.{IsCut}
use Rattle.run_theory.specs.Lists.{IsIn, IsPast}
use Rattle.sig_core.proofs.Keys.{same_key-self, same_tx-self}
use Rattle.sig_core.specs.declared.entry.Entry.{Entry}
use Rattle.sig_core.specs.declared.member.TxId.{TxId}
use Rattle.sig_core.specs.declared.op.Answer.{Answer}
use Rattle.sig_core.specs.declared.op.Op.{Op}
use Rattle.sig_core.specs.Op.{key_of}
use Rattle.sig_core.specs.Same.{same_key, same_tx}
use Rattle.world_core.specs.Entries.{entries, entries_of, insert, insert_all, is_before}
use Rattle.world_core.specs.History.{history, is_done, is_kept}
use Rattle.world_core.specs.Hosts.{hosts}
use Rattle.world_core.specs.Start.{Start}
use Rattle.world_core.specs.Steps.{HostStep}
use Rattle.view_laws.proofs.eras.Entries.{stand_in_order}
use Rattle.view_laws.specs.Order.{decisions}
use Rattle.view_laws.specs.Runs.{AreOfCluster}
use Rattle.moment_laws.specs.Moments.{IsMoment, logs_of}
use Rattle.outcome_laws.proofs.knowledge.CommitsWereDecided.{in_turned}
use Rattle.outcome_laws.proofs.once.DecidedOnce.{decided_once}
use Rattle.outcome_laws.proofs.order.EventsBefore.{entries_past}
use Rattle.request_laws.proofs.routes.ChainsStay.{any_in}
use Rattle.commit_laws.specs.Going.{decided_ops, is_decided, is_written_by}
use Rattle.commit_laws.specs.Traces.{IsApplied}
use Rattle.commit_laws.specs.Values.{is_final}
use Rattle.commit_laws.proofs.settled.All.{all_stand}
use Rattle.commit_laws.proofs.forth.All.{forth_is_known}
use Rattle.commit_laws.proofs.led.Applied.{HasEntryOf, applied_are_final, entry_of_decided}
use Rattle.commit_laws.proofs.led.Entries.{entries_final, one_entry}
use Rattle.commit_laws.proofs.markers.Lists.{in_filter}
use Rattle.commit_laws.proofs.hosts.SomePasses.{passing}
use Rattle.closing_laws.proofs.settled.Cuts.{cut_moment, events_of, logs_are}

-- an entry at its place, and those beside it
in_insert : (a x : Entry) (xs : List Entry) → (x ≡ a) ⊎ IsIn x xs → IsIn x (insert a xs)
in_insert a x [] is = is
in_insert a x (b ∷ rest) is = by (is_before a b) is (in_insert a x rest)
  where
    by : (c : Bool) → (x ≡ a) ⊎ IsIn x (b ∷ rest) → ((x ≡ a) ⊎ IsIn x rest → IsIn x (insert a rest))
        → IsIn x (cond c (a ∷ b ∷ rest) (b ∷ insert a rest))
    by true is more = is
    by false (inl same) more = inr (more (inl same))
    by false (inr (inl same)) more = inl same
    by false (inr (inr there)) more = inr (more (inr there))

out_insert : (a x : Entry) (xs : List Entry) → IsIn x (insert a xs) → (x ≡ a) ⊎ IsIn x xs
out_insert a x [] is = is
out_insert a x (b ∷ rest) is = by (is_before a b) is (out_insert a x rest)
  where
    by : (c : Bool) → IsIn x (cond c (a ∷ b ∷ rest) (b ∷ insert a rest))
        → (IsIn x (insert a rest) → (x ≡ a) ⊎ IsIn x rest) → (x ≡ a) ⊎ IsIn x (b ∷ rest)
    by true is more = is
    by false (inl same) more = inr (inl same)
    by false (inr there) more = back (more there)
      where
        back : (x ≡ a) ⊎ IsIn x rest → (x ≡ a) ⊎ IsIn x (b ∷ rest)
        back (inl same) = inl same
        back (inr below) = inr (inr below)

in_all : (x : Entry) (news into : List Entry) → IsIn x news ⊎ IsIn x into → IsIn x (insert_all news into)
in_all x [] into (inl none) = absurd none
in_all x [] into (inr there) = there
in_all x (a ∷ news) into (inl (inl same)) = in_insert a x (insert_all news into) (inl same)
in_all x (a ∷ news) into (inl (inr there)) =
    in_insert a x (insert_all news into) (inr (in_all x news into (inl there)))
in_all x (a ∷ news) into (inr there) = in_insert a x (insert_all news into) (inr (in_all x news into (inr there)))

out_all : (x : Entry) (news into : List Entry) → IsIn x (insert_all news into) → IsIn x news ⊎ IsIn x into
out_all x [] into there = inr there
out_all x (a ∷ news) into there = by (out_insert a x (insert_all news into) there) (out_all x news into)
  where
    by : (x ≡ a) ⊎ IsIn x (insert_all news into) → (IsIn x (insert_all news into) → IsIn x news ⊎ IsIn x into)
        → IsIn x (a ∷ news) ⊎ IsIn x into
    by (inl same) rest = inl (inl same)
    by (inr below) rest = more (rest below)
      where
        more : IsIn x news ⊎ IsIn x into → IsIn x (a ∷ news) ⊎ IsIn x into
        more (inl new) = inl (inr new)
        more (inr old) = inr old

-- the entries of a part of a log are some of those of the whole
entries_front : (h : ℕ) (newer log : List HostStep) → IsPast (entries_of h log) (entries_of h (newer ++ log))
entries_front h [] log = past_self (entries_of h log)
entries_front h (e ∷ newer) log =
    past_trans (entries_front h newer log)
    (entries_past h e.step.stamp (e ∷ newer ++ log) e.step.marks (entries_of h (newer ++ log)))

-- so a greater cut has all entries of a lesser one
pub entries_grow : (small large : ℕ → List HostStep) → IsCut small large → (x : Entry) (n : ℕ)
    → IsIn x (entries n small) → IsIn x (entries n large)
entries_grow small large cut x zero there = absurd there
entries_grow small large cut x (suc n) there =
    in_all x (entries_of n (large n)) (entries n large)
    (by (out_all x (entries_of n (small n)) (entries n small) there) (entries_grow small large cut x n))
  where
    by : IsIn x (entries_of n (small n)) ⊎ IsIn x (entries n small)
        → (IsIn x (entries n small) → IsIn x (entries n large))
        → IsIn x (entries_of n (large n)) ⊎ IsIn x (entries n large)
    by (inl own) rest =
        inl (subst (λ log. IsIn x (entries_of n log)) (sym (cut n).is)
        (in_past x (entries_front n (cut n).newer (small n)) own))
    by (inr lower) rest = inr (rest lower)

-- who wrote has written some key
pub record WritesOne (ops : List (Op × Answer)) : Type 0 where
  pub key : List ℕ
  pub written : is_written_by ops key ≡ true

pub writes_one : (ops : List (Op × Answer)) → list_any (λ (op : Op × Answer). is_done op.1) ops ≡ true → WritesOne ops
writes_one ops some =
    let one = passing (λ (op : Op × Answer). is_done op.1) ops some in
    let key = key_of one.item.0 in
    record {
      key = key;
      written =
          any_in (λ (op : Op × Answer). is_done op.1) one.item
          (filter (λ (op : Op × Answer). same_key (key_of op.0) key) ops)
          (in_filter (λ (op : Op × Answer). same_key (key_of op.0) key) one.item ops one.there (same_key-self key))
          one.is;
    }

module _ (start : Start) (small large : ℕ → List HostStep) (less : AreOfCluster start small)
    (more : AreOfCluster start large) (cut : IsCut small large)
  where
    abbrev pub end : List HostStep
    end = events_of start small

    pub end_moment : IsMoment start large (events_of start small)
    end_moment = cut_moment start small large less more cut

    end_logs : logs_of start end ≡ small
    end_logs = logs_are start small less

    -- the decisions of the run are the entries of the cut
    pub in_entries : (x : Entry) → IsIn x (decisions start end) → IsIn x (entries (hosts start) small)
    in_entries x there =
        subst (IsIn x) (sym (stand_in_order start small less)) (in_turned x (decisions start end) there)

    module _ (z : Entry) (there : IsIn z (entries (hosts start) large))
        (decided : is_decided start (logs_of start (events_of start small)) z.tx ≡ true) where
      own : HasEntryOf start (events_of start small) z.tx
      own = entry_of_decided start large (events_of start small) end_moment z.tx decided

      -- the entry of the decision is the one that the greater cut has
      own_is : own.entry ≡ z
      own_is =
          one_entry (entries (hosts start) large) own.entry z (decided_once start large more)
          (entries_grow small large cut own.entry (hosts start) (in_entries own.entry own.there)) there
          (ap (λ (t : TxId). same_tx t z.tx) own.tx_is ∙ same_tx-self z.tx)

      pub own_ops : z.ops ≡ decided_ops start (logs_of start (events_of start small)) z.tx
      own_ops = ap (λ (b : Entry). b.ops) (sym own_is) ∙ own.ops_is

      pub stays_in : (key : List ℕ) → IsApplied start (logs_of start (events_of start small)) z.tx key
          → IsIn z (history (hosts start) small)
      stays_in key applied =
          subst (λ (b : Entry). IsIn b (history (hosts start) small)) own_is
          (in_filter (is_kept (hosts start) small) own.entry (entries (hosts start) small)
          (in_entries own.entry own.there) kept)
        where
          final : is_final start end z.tx ≡ true
          final =
              applied_are_final forth_is_known all_stand start large end end
              (record { moment = end_moment; past = past_self end }) z.tx key applied

          kept : is_kept (hosts start) small own.entry ≡ true
          kept =
              subst (λ (logs : ℕ → List HostStep). is_kept (hosts start) logs own.entry ≡ true) end_logs
              (entries_final start large end end (record { moment = end_moment; past = past_self end }) own.entry
              own.there
              ∙ ap (is_final start end) own.tx_is ∙ final)
