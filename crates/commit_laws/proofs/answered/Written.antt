-- A key that was written is among those that the transaction has touched, so where each of these was committed, all
-- were that were written.
use Rattle.std.proofs.Common.{◌≡◌, ◌||◌, ◌∙◌, ℕ, Bool, true, false, List, [], ◌∷◌, refl, sym, subst, inl, inr}
use Rattle.std.proofs.lemmas.Bool.{true≢false}
use Rattle.std.specs.List.{list_any}
use Rattle.run_theory.specs.Lists.{Each, IsIn}
use Rattle.run_theory.proofs.Pasts.{each_in}
use Rattle.sig_core.specs.declared.member.TxId.{TxId}
use Rattle.sig_core.specs.declared.op.Answer.{Answer}
use Rattle.sig_core.specs.declared.op.Op.{Op}
use Rattle.sig_core.specs.Op.{key_of}
use Rattle.sig_core.specs.Same.{same_key}
use Rattle.row_records.proofs.KeyLemmas.{same as same_key-is}
use Rattle.tc_block.specs.declared.touched.Touched.{Touched}
use Rattle.tc_block.specs.Touched.{is_on}
use Rattle.run_laws.specs.Keyed.{HasTouched}
use Rattle.run_laws.proofs.tokens.TouchedLists.{none_done, untouched_none}
use Rattle.world_core.specs.Start.{Start}
use Rattle.world_core.specs.Steps.{HostStep}
use Rattle.commit_laws.specs.Answered.{AllWereCommittedIn, WasCommittedIn}
use Rattle.commit_laws.specs.Going.{decided_ops, is_written_by}

-- one of these has the key
pub record Has (touched : List Touched) (key : List ℕ) : Type 0 where
  pub one : Touched
  pub among : IsIn one touched
  pub key_is : one.key ≡ key

has_touched : (touched : List Touched) (key : List ℕ) → list_any (is_on key) touched ≡ true → Has touched key
has_touched [] key is = absurd (true≢false (sym is))
has_touched (u ∷ touched) key is = by (same_key u.key key) refl is (has_touched touched key)
  where
    by : (b : Bool) → same_key u.key key ≡ b → (b || list_any (is_on key) touched) ≡ true
        → (list_any (is_on key) touched ≡ true → Has touched key) → Has (u ∷ touched) key
    by true e here more = record { one = u; among = inl refl; key_is = same_key-is u.key key e }
    by false e here more =
        let rest = more here in record { one = rest.one; among = inr rest.among; key_is = rest.key_is }

pub written_touched : (touched : List Touched) (ops : List (Op × Answer)) (key : List ℕ)
    → Each (λ (op : Op × Answer). HasTouched touched (key_of op.0)) ops → is_written_by ops key ≡ true
    → Has touched key
written_touched touched ops key all written = by (list_any (is_on key) touched) refl
  where
    by : (b : Bool) → list_any (is_on key) touched ≡ b → Has touched key
    by true is = has_touched touched key is
    by false off =
        absurd (true≢false (sym written ∙ none_done key ops (untouched_none touched key ops off all)))

pub all_committed_in : (start : Start) (logs : ℕ → List HostStep) (number : ℕ) (tx : TxId) (touched : List Touched)
    (ops : List (Op × Answer)) → decided_ops start logs tx ≡ ops
    → Each (λ (op : Op × Answer). HasTouched touched (key_of op.0)) ops
    → Each (λ (u : Touched). WasCommittedIn start logs number tx u.key) touched
    → AllWereCommittedIn start logs number tx
all_committed_in start logs number tx touched ops ops_are all were key written =
    let has =
    written_touched touched ops key all (subst (λ (o : List (Op × Answer)). is_written_by o key ≡ true) ops_are written)
    in
    subst (WasCommittedIn start logs number tx) has.key_is
    (each_in (λ (u : Touched). WasCommittedIn start logs number tx u.key) has.one touched were has.among)
