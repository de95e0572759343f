-- What the coordinator and the epochs of node 1 do at each step of the put.
use Rattle.std.proofs.Common.{List, [], ◌∷◌, refl, ap}
use Rattle.std.specs.Prelude.{Option, None, Some}
use Rattle.sig_core.specs.declared.mark.Mark.{Mark}
use Rattle.sig_core.specs.declared.mark.Mark.TheVariants.{Decided}
use Rattle.sig_core.specs.declared.member.Member.{Member}
use Rattle.sig_core.specs.declared.member.TxId.{TxId}
use Rattle.sig_core.specs.declared.op.Answer.{Answer}
use Rattle.sig_core.specs.declared.op.Answer.TheVariants.{Done}
use Rattle.sig_core.specs.declared.op.Op.{Op}
use Rattle.sig_core.specs.declared.outs.Outgoing.{Outgoing}
use Rattle.sig_core.specs.declared.signal.Body.TheVariants.{Chain, Client, Epoch}
use Rattle.sig_core.specs.declared.signal.chain.ChainSignal.TheVariants.{Commit, Complete, LqhKeyReq}
use Rattle.sig_core.specs.declared.signal.chain.RowWork.TheVariants.{Operate}
use Rattle.sig_core.specs.declared.signal.client.ClientSignal.TheVariants.{TcBeginConf, TcCommitConf, TcKeyConf}
use Rattle.sig_core.specs.declared.signal.epoch.EpochSignal.TheVariants.{DiVerifyConf, DiVerifyEnd, DiVerifyReq}
use Rattle.sig_core.specs.Chain.{node_at}
use Rattle.sig_core.specs.Place.{client, coordinator, epochs, rows_of}
use Rattle.sig_core.specs.Step.{Step, to_place}
use Rattle.frag_map.specs.Layout.{first_layout}
use Rattle.tc_block.specs.Commit as commit
use Rattle.tc_block.specs.Complete.{all_committed, completed_row}
use Rattle.tc_block.specs.declared.phase.Asked.{Asked}
use Rattle.tc_block.specs.declared.phase.Phase.{Phase}
use Rattle.tc_block.specs.declared.phase.Phase.TheVariants.{Committing, Completing, Open, Verifying}
use Rattle.tc_block.specs.declared.touched.Touched.{Touched}
use Rattle.tc_block.specs.declared.transaction.Transaction.{Transaction}
use Rattle.tc_block.specs.Live.{without}
use Rattle.tc_block.specs.Operate as operate
use Rattle.tc_block.specs.Part.{part_effects}
use Rattle.tc_block.specs.Sends as sends
use Rattle.tc_block.specs.Tc as tc
use Rattle.tc_block.specs.Touched.{unwritten, written}
use Rattle.node_core.specs.declared.host.Host.{Host}
use Rattle.node_core.specs.declared.host.Host.TheVariants.{Tc}
use Rattle.node_core.specs.Dih as dih
use Rattle.node_core.specs.Fresh.{fresh_part}
use Rattle.node_core.specs.Row.{row, tc_part_row}
use Rattle.world_core.specs.Hosts.{started}
use Rattle.answer_laws.specs.Sample.{first_tx}
use Rattle.sample_runs.proofs.PutChain.{chain_is}
use Rattle.sample_runs.proofs.Traces.{Do}
use Rattle.sample_runs.specs.Put.{coordination, key, replicas, two, write}

-- the coordinator with these transactions, of which so many have an epoch, which sends this
abbrev comes : List (TxId × Transaction) → List TxId → List Outgoing → List Mark → Step Host
comes live counted sends marks = record {
  state = Tc (record {
    tc = record { node = 1; start = 0; next_seq = 2; layout = first_layout two.shape; live = live };
    dih = record { node = 1; epoch = 1; counted = counted };
  });
  effects = record { sends = sends; marks = marks };
}

-- the transaction of the put
abbrev lone : List (Op × Answer) → List Touched → Option Asked → Phase → List (TxId × Transaction)
lone ops touched asked phase = (first_tx, record { ops = ops; touched = touched; asked = asked; phase = phase }) ∷ []

-- once it is answered
abbrev answered : Phase → List (TxId × Transaction)
answered phase = lone ((write, Done) ∷ []) (written key replicas ∷ []) None phase

-- its operation goes out, along this chain
abbrev operating : List Member → Step Host
operating chain =
    comes (lone [] (unwritten key chain ∷ []) (Some (record { op = write; chain = chain })) Open) []
    (to_place (rows_of (node_at chain 0)) (Chain (LqhKeyReq first_tx (Operate write) chain 0)) ∷ []) []

abbrev pub coordinator_steps : List (Step Host)
coordinator_steps =
    comes [] [] [] []
    ∷ comes [] (first_tx ∷ []) (to_place (epochs 1) (Epoch (DiVerifyEnd first_tx)) ∷ []) []
    ∷ comes (answered (Completing 1 1)) (first_tx ∷ [])
    (to_place client (Client (TcCommitConf first_tx 1)) ∷ to_place (rows_of 2)
    (Chain (Complete first_tx key replicas 1)) ∷ []) []
    ∷ comes (answered (Committing 1 1)) (first_tx ∷ [])
    (to_place (rows_of 2) (Chain (Commit first_tx key 1 replicas 1)) ∷ []) []
    ∷ comes (answered Verifying) (first_tx ∷ []) (to_place (coordinator 1) (Epoch (DiVerifyConf first_tx 1)) ∷ [])
    (Decided first_tx 1 ∷ [])
    ∷ comes (answered Verifying) [] (to_place (epochs 1) (Epoch (DiVerifyReq first_tx ((write, Done) ∷ []))) ∷ []) []
    ∷ comes (answered Open) [] (to_place client (Client (TcKeyConf first_tx Done)) ∷ []) []
    ∷ operating replicas
    ∷ comes (lone [] [] None Open) [] (to_place client (Client (TcBeginConf None first_tx)) ∷ []) []
    ∷ []

pub coordinator_do : Do two 2 coordination coordinator_steps
unfolding started fresh_part row tc_part_row tc.begin_row operate.operate_row operate.answer_row commit.verify_row
    commit.commit_row commit.committed_row all_committed completed_row sends.entering sends.phase_sends
    sends.front_sends sends.key_sends part_effects without dih.decide_row dih.end_row
coordinator_do = (
  record { at = refl; stamped = refl; does = refl; marks = refl; asked = tt },
  (
    record { at = refl; stamped = refl; does = refl; marks = refl; asked = tt },
    (
      record { at = refl; stamped = refl; does = refl; marks = refl; asked = tt },
      (
        record { at = refl; stamped = refl; does = refl; marks = refl; asked = tt },
        (
          record { at = refl; stamped = refl; does = refl; marks = refl; asked = tt },
          (
            record { at = refl; stamped = refl; does = refl; marks = refl; asked = tt },
            (
              record { at = refl; stamped = refl; does = refl; marks = refl; asked = tt },
              (
                record { at = refl; stamped = refl; does = ap operating chain_is; marks = refl; asked = tt },
                (record { at = refl; stamped = refl; does = refl; marks = refl; asked = tt }, tt),
              ),
            ),
          ),
        ),
      ),
    ),
  ),
)
