-- The abort of a transaction's part in a row, at one replica.
use Rattle.std.specs.Prelude.{ℕ, Bool, false, List, [], ◌∷◌, ◌++◌, position, remove, Option, None, Some}
use Rattle.sig_core.specs.declared.mark.Mark.{Mark}
use Rattle.sig_core.specs.declared.mark.Mark.TheVariants.{Done}
use Rattle.sig_core.specs.declared.member.TxId.{TxId}
use Rattle.sig_core.specs.declared.outcome.AbortCause.TheVariants.{Request}
use Rattle.sig_core.specs.declared.outs.Outgoing.{Outgoing}
use Rattle.sig_core.specs.declared.signal.Body.TheVariants.{Chain}
use Rattle.sig_core.specs.declared.signal.chain.ChainSignal.TheVariants.{Aborted}
use Rattle.sig_core.specs.Place.{coordinator_of}
use Rattle.sig_core.specs.Rows.{record_state}
use Rattle.sig_core.specs.Step.{Step, to_place}
use Rattle.lqh_block.specs.State.{LqhState, freed_lock, serve_granted, storage_of, unlocked, with_storage, with_waiting}
use Rattle.lqh_block.specs.Storage.{aborted_in, refusal}
use Rattle.lqh_block.specs.Work.{is_for}

-- where the transaction's request for the key stands among those that wait
abbrev pub waits_at : LqhState → TxId → List ℕ → Option ℕ
waits_at s tx key = position (is_for tx key) s.waiting

-- that request is taken out
abbrev pub unasked_by : LqhState → Option ℕ → LqhState
unasked_by s None = s
unasked_by s (Some at) = with_waiting s (remove s.waiting at)

abbrev pub unasked : LqhState → TxId → List ℕ → LqhState
unasked s tx key = unasked_by s (waits_at s tx key)

-- and refused
abbrev pub refused_by : TxId → List ℕ → Option ℕ → List Outgoing
refused_by tx key None = []
refused_by tx key (Some at) = refusal tx key Request ∷ []

-- a prepared image is given up; where there is none nothing is
abbrev pub given_up : LqhState → TxId → List ℕ → Option Bool → LqhState
given_up s tx key (Some false) = with_storage s (aborted_in (storage_of s) tx key)
given_up s tx key _ = s

abbrev pub given_up_marks : TxId → List ℕ → Option Bool → List Mark
given_up_marks tx key (Some false) = Done tx key ∷ []
given_up_marks tx key _ = []

-- a transaction's part in a row is to be aborted
unfoldable pub abort_row : LqhState → TxId → List ℕ → Step LqhState
abort_row s tx key =
    record {
      state = unlocked (given_up (unasked s tx key) tx key (record_state s.rows tx key)) tx key;
      effects = record {
        sends = refused_by tx key (waits_at s tx key)
            ++ (to_place (coordinator_of tx) (Chain (Aborted tx key)) ∷ serve_granted s.node (freed_lock s tx key));
        marks = given_up_marks tx key (record_state s.rows tx key);
      };
    }
