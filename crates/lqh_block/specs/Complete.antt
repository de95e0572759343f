-- The completion of a record, at one replica.
use Rattle.std.specs.Prelude.{ℕ, ◌-◌, ◌==◌, Bool, true, false, List, [], ◌∷◌}
use Rattle.sig_core.specs.declared.mark.Mark.TheVariants.{Done}
use Rattle.sig_core.specs.declared.member.Member.{Member}
use Rattle.sig_core.specs.declared.member.TxId.{TxId}
use Rattle.sig_core.specs.declared.outs.Outgoing.{Outgoing}
use Rattle.sig_core.specs.declared.signal.Body.TheVariants.{Chain}
use Rattle.sig_core.specs.declared.signal.chain.ChainSignal.TheVariants.{Complete, Completed}
use Rattle.sig_core.specs.Chain.{node_at}
use Rattle.sig_core.specs.Place.{coordinator_of, rows_of}
use Rattle.sig_core.specs.Rows.{complete_record}
use Rattle.sig_core.specs.Step.{Step, to_place}
use Rattle.lqh_block.specs.State.{LqhState, freed_lock, serve_granted, unlocked, with_rows}

-- the completion is told: at the primary to the coordinator, and else to the place in front
abbrev pub completed_by : TxId → List ℕ → List Member → ℕ → Bool → Outgoing
completed_by tx key chain at true = to_place (coordinator_of tx) (Chain (Completed tx key))
completed_by tx key chain at false =
    to_place (rows_of (node_at chain (at - 1))) (Chain (Complete tx key chain (at - 1)))

-- a record is to be completed, at a place of its chain
unfoldable pub complete_row : LqhState → TxId → List ℕ → List Member → ℕ → Step LqhState
complete_row s tx key chain at =
    record {
      state = unlocked (with_rows s (complete_record s.rows tx key)) tx key;
      effects = record {
        sends = completed_by tx key chain at (at == 0) ∷ serve_granted s.node (freed_lock s tx key);
        marks = Done tx key ∷ [];
      };
    }
