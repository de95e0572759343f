-- The forms of the steps of the block of epochs, each with what it tests. What is so of each form is so of every step,
-- and so no law above has to open a row.
use Rattle.std.proofs.Common.{◌≡◌, ◌++◌, ◌∷◌, [], ℕ, List, Bool, true, false, refl}
use Rattle.std.specs.Prelude.{Option, None, Some, length, nat_lt, position, remove}
use Rattle.run_theory.specs.Lists.{Each}
use Rattle.sig_core.specs.declared.mark.Mark.{Mark}
use Rattle.sig_core.specs.declared.mark.Mark.TheVariants.{Decided}
use Rattle.sig_core.specs.declared.member.TxId.{TxId}
use Rattle.sig_core.specs.declared.op.Answer.{Answer}
use Rattle.sig_core.specs.declared.op.Op.{Op}
use Rattle.sig_core.specs.declared.signal.Body.{Body}
use Rattle.sig_core.specs.declared.signal.Body.TheVariants.{Epoch}
use Rattle.sig_core.specs.declared.signal.epoch.EpochSignal.TheVariants.{DiVerifyReq, DiVerifyConf, DiVerifyEnd}
use Rattle.sig_core.specs.Place.{coordinator}
use Rattle.sig_core.specs.Same.{same_tx}
use Rattle.sig_core.specs.Step.{Step, stay, to_place}
use Rattle.tc_block.specs.declared.tc.TheConstants.{TRANSACTIONS}
use Rattle.node_core.specs.Dih.{DihState, decide_if, decide_row, dih_table, end_by, end_row}

-- the block with these transactions counted
abbrev pub counting : DihState → List TxId → DihState
counting s counted = record { node = s.node; epoch = s.epoch; counted = counted }

-- a transaction is decided in the current epoch, and counted
abbrev pub deciding : DihState → TxId → Step DihState
deciding s tx =
    record {
      state = counting s (s.counted ++ tx ∷ []);
      effects = record {
        sends = to_place (coordinator s.node) (Epoch (DiVerifyConf tx s.epoch)) ∷ [];
        marks = Decided tx s.epoch ∷ [];
      };
    }

-- the signal is for the block of epochs
abbrev pub is_for_epochs : Body → Bool
is_for_epochs (Epoch (DiVerifyReq tx ops)) = true
is_for_epochs (Epoch (DiVerifyEnd tx)) = true
is_for_epochs _ = false

-- the forms of all steps, each with the signal at which it is taken
pub record DihForms (Q : Body → Step DihState → Type 0) (s : DihState) : Type 0 where
  -- a transaction is given an epoch
  pub decides : (tx : TxId) (ops : List (Op × Answer)) → nat_lt (length s.counted) TRANSACTIONS ≡ true
      → Q (Epoch (DiVerifyReq tx ops)) (deciding s tx)
  -- too many are counted
  pub is_full : (tx : TxId) (ops : List (Op × Answer)) → nat_lt (length s.counted) TRANSACTIONS ≡ false
      → Q (Epoch (DiVerifyReq tx ops)) (stay s)
  -- a transaction that is counted has ended
  pub ends : (tx : TxId) (at : ℕ) → position (same_tx tx) s.counted ≡ Some at
      → Q (Epoch (DiVerifyEnd tx)) (stay (counting s (remove s.counted at)))
  -- one that isn't
  pub misses : (tx : TxId) → position (same_tx tx) s.counted ≡ None → Q (Epoch (DiVerifyEnd tx)) (stay s)
  -- the signal is for others
  pub rests : (body : Body) → is_for_epochs body ≡ false → Q body (stay s)

module _ (Q : Body → Step DihState → Type 0) (s : DihState) (forms : DihForms Q s) where
  decide_forms : (tx : TxId) (ops : List (Op × Answer)) → Q (Epoch (DiVerifyReq tx ops)) (decide_row s tx)
  unfolding decide_row
  decide_forms tx ops = by (nat_lt (length s.counted) TRANSACTIONS) refl
    where
      by : (b : Bool) → nat_lt (length s.counted) TRANSACTIONS ≡ b → Q (Epoch (DiVerifyReq tx ops)) (decide_if s tx b)
      by true low = forms.decides tx ops low
      by false high = forms.is_full tx ops high

  end_forms : (tx : TxId) → Q (Epoch (DiVerifyEnd tx)) (stay (end_row s tx))
  unfolding end_row
  end_forms tx = by (position (same_tx tx) s.counted) refl
    where
      by : (at : Option ℕ) → position (same_tx tx) s.counted ≡ at → Q (Epoch (DiVerifyEnd tx)) (stay (end_by s at))
      by None is = forms.misses tx is
      by (Some at) is = forms.ends tx at is

-- whatever the block takes
pub dih_forms : (Q : Body → Step DihState → Type 0) (s : DihState) → DihForms Q s → (body : Body)
    → Q body (dih_table s body)
dih_forms Q s forms (Epoch (DiVerifyReq tx ops)) = decide_forms Q s forms tx ops
dih_forms Q s forms (Epoch (DiVerifyEnd tx)) = end_forms Q s forms tx
dih_forms Q s forms body = forms.rests body refl

-- what is so of a mark of a decision is so of all that the block marks
pub dih_marks_each : (M : Mark → Type 0) (s : DihState) (body : Body)
    → ((tx : TxId) (ops : List (Op × Answer)) → body ≡ Epoch (DiVerifyReq tx ops) → M (Decided tx s.epoch))
    → Each M (dih_table s body).effects.marks
dih_marks_each M s body decided =
    dih_forms (λ b step. body ≡ b → Each M step.effects.marks) s (record {
      decides = λ tx ops low is. (decided tx ops is, tt);
      is_full = λ tx ops high is. tt;
      ends = λ tx at there is. tt;
      misses = λ tx none is. tt;
      rests = λ b off is. tt;
    }) body refl
