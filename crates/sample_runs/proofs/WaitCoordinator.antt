-- What the coordinator and the epochs of the node do at each step of the wait.
use Rattle.std.proofs.Common.{◌≡◌, ℕ, List, [], ◌∷◌, refl, ap, ◌∙◌}
use Rattle.std.specs.Prelude.{None, Some}
use Rattle.std.proofs.Math.Nat.{mod-one}
use Rattle.sig_core.specs.declared.mark.Mark.{Mark}
use Rattle.sig_core.specs.declared.mark.Mark.TheVariants.{Decided}
use Rattle.sig_core.specs.declared.member.Member.{Member}
use Rattle.sig_core.specs.declared.member.TxId.{TxId}
use Rattle.sig_core.specs.declared.op.Answer.TheVariants.{Done}
use Rattle.sig_core.specs.declared.op.Op.{Op}
use Rattle.sig_core.specs.declared.outs.Outgoing.{Outgoing}
use Rattle.sig_core.specs.declared.signal.Body.TheVariants.{Chain, Client, Epoch}
use Rattle.sig_core.specs.declared.signal.chain.ChainSignal.TheVariants.{Commit, Complete, LqhKeyReq}
use Rattle.sig_core.specs.declared.signal.chain.RowWork.TheVariants.{Operate}
use Rattle.sig_core.specs.declared.signal.client.ClientSignal.TheVariants.{TcBeginConf, TcCommitConf, TcKeyConf}
use Rattle.sig_core.specs.declared.signal.epoch.EpochSignal.TheVariants.{DiVerifyConf, DiVerifyEnd, DiVerifyReq}
use Rattle.sig_core.specs.Chain.{node_at}
use Rattle.sig_core.specs.Place.{client, coordinator, epochs, rows_of}
use Rattle.sig_core.specs.Step.{Step, to_place}
use Rattle.frag_map.specs.Fragment.{frag_of}
use Rattle.frag_map.specs.Layout.{chain_of, first_layout, first_view}
use Rattle.frag_map.specs.Replicas.{replicas_of}
use Rattle.tc_block.specs.Commit as commit
use Rattle.tc_block.specs.Complete.{all_committed, completed_row}
use Rattle.tc_block.specs.declared.phase.Phase.{Phase}
use Rattle.tc_block.specs.declared.phase.Phase.TheVariants.{Committing, Completing, Open, Verifying}
use Rattle.tc_block.specs.declared.transaction.Transaction.{Transaction}
use Rattle.tc_block.specs.Live.{without}
use Rattle.tc_block.specs.Operate as operate
use Rattle.tc_block.specs.Part.{part_effects}
use Rattle.tc_block.specs.Sends as sends
use Rattle.tc_block.specs.Tc as tc
use Rattle.tc_block.specs.Touched.{unwritten, written}
use Rattle.node_core.specs.declared.host.Host.{Host}
use Rattle.node_core.specs.declared.host.Host.TheVariants.{Tc}
use Rattle.node_core.specs.Dih as dih
use Rattle.node_core.specs.Fresh.{fresh_part}
use Rattle.node_core.specs.Row.{row, tc_part_row}
use Rattle.world_core.specs.Hosts.{started}
use Rattle.answer_laws.specs.Sample.{first_tx, lone}
use Rattle.sample_runs.proofs.Traces.{Do}
use Rattle.sample_runs.specs.Put.{key}
use Rattle.sample_runs.specs.Wait.{alone, first_write, ordering, second_tx, second_write}

fragment_is : frag_of lone.shape key ≡ 0
unfolding frag_of
fragment_is = mod-one _

replicas_are : replicas_of lone.shape (first_view 1) 0 ≡ alone
unfolding replicas_of
replicas_are = refl

chain_is : chain_of (first_layout lone.shape) key ≡ alone
unfolding chain_of
chain_is = ap (replicas_of lone.shape (first_view 1)) fragment_is ∙ replicas_are

-- the coordinator with these transactions, before it begins the one of this number; those that have an epoch; what it
-- sends
abbrev comes : ℕ → List (TxId × Transaction) → List TxId → List Outgoing → List Mark → Step Host
comes next live counted sends marks = record {
  state = Tc (record {
    tc = record { node = 1; start = 0; next_seq = next; layout = first_layout lone.shape; live = live };
    dih = record { node = 1; epoch = 1; counted = counted };
  });
  effects = record { sends = sends; marks = marks };
}

-- a transaction that has begun, one whose put is on its way along this chain, and one whose put is answered
abbrev begun : Transaction
begun = record { ops = []; touched = []; asked = None; phase = Open }

abbrev putting : Op → List Member → Transaction
putting op chain = record {
  ops = [];
  touched = unwritten key chain ∷ [];
  asked = Some (record { op = op; chain = chain });
  phase = Open;
}

abbrev answered : Op → Phase → Transaction
answered op phase = record { ops = (op, Done) ∷ []; touched = written key alone ∷ []; asked = None; phase = phase }

-- the first transaction once its put is answered, and the second
abbrev first : Phase → TxId × Transaction
first phase = (first_tx, answered first_write phase)

abbrev second : Phase → TxId × Transaction
second phase = (second_tx, answered second_write phase)

-- the put of the first goes out along this chain, and that of the second
abbrev first_puts : List Member → Step Host
first_puts chain =
    comes 2 ((first_tx, putting first_write chain) ∷ []) []
    (to_place (rows_of (node_at chain 0)) (Chain (LqhKeyReq first_tx (Operate first_write) chain 0)) ∷ []) []

abbrev second_puts : List Member → Step Host
second_puts chain =
    comes 3 (first Open ∷ (second_tx, putting second_write chain) ∷ []) []
    (to_place (rows_of (node_at chain 0)) (Chain (LqhKeyReq second_tx (Operate second_write) chain 0)) ∷ []) []

-- the second, while its put is on its way
abbrev behind : TxId × Transaction
behind = (second_tx, putting second_write alone)

abbrev pub ordering_steps : List (Step Host)
ordering_steps =
    comes 3 [] [] [] []
    ∷ comes 3 [] (second_tx ∷ []) (to_place (epochs 1) (Epoch (DiVerifyEnd second_tx)) ∷ []) []
    ∷ comes 3 (second (Completing 1 1) ∷ []) (second_tx ∷ [])
    (to_place client (Client (TcCommitConf second_tx 1)) ∷ to_place (rows_of 1) (Chain (Complete second_tx key alone 0))
    ∷ []) []
    ∷ comes 3 (second (Committing 1 1) ∷ []) (second_tx ∷ [])
    (to_place (rows_of 1) (Chain (Commit second_tx key 1 alone 0)) ∷ []) []
    ∷ comes 3 (second Verifying ∷ []) (second_tx ∷ [])
    (to_place (coordinator 1) (Epoch (DiVerifyConf second_tx 1)) ∷ []) (Decided second_tx 1 ∷ [])
    ∷ comes 3 (second Verifying ∷ []) [] (to_place (epochs 1)
    (Epoch (DiVerifyReq second_tx ((second_write, Done) ∷ []))) ∷ []) []
    ∷ comes 3 (second Open ∷ []) [] [] []
    ∷ comes 3 (second Open ∷ []) (first_tx ∷ []) (to_place (epochs 1) (Epoch (DiVerifyEnd first_tx)) ∷ []) []
    ∷ comes 3 (first (Completing 1 1) ∷ second Open ∷ []) (first_tx ∷ [])
    (to_place client (Client (TcKeyConf second_tx Done)) ∷ []) []
    ∷ comes 3 (first (Completing 1 1) ∷ behind ∷ []) (first_tx ∷ [])
    (to_place client (Client (TcCommitConf first_tx 1)) ∷ to_place (rows_of 1) (Chain (Complete first_tx key alone 0)) ∷
    []) []
    ∷ comes 3 (first (Committing 1 1) ∷ behind ∷ []) (first_tx ∷ [])
    (to_place (rows_of 1) (Chain (Commit first_tx key 1 alone 0)) ∷ []) []
    ∷ comes 3 (first Verifying ∷ behind ∷ []) (first_tx ∷ [])
    (to_place (coordinator 1) (Epoch (DiVerifyConf first_tx 1)) ∷ []) (Decided first_tx 1 ∷ [])
    ∷ comes 3 (first Verifying ∷ behind ∷ []) []
    (to_place (epochs 1) (Epoch (DiVerifyReq first_tx ((first_write, Done) ∷ []))) ∷ []) []
    ∷ second_puts alone
    ∷ comes 3 (first Open ∷ (second_tx, begun) ∷ []) [] (to_place client (Client (TcBeginConf None second_tx)) ∷ []) []
    ∷ comes 2 (first Open ∷ []) [] (to_place client (Client (TcKeyConf first_tx Done)) ∷ []) []
    ∷ first_puts alone
    ∷ comes 2 ((first_tx, begun) ∷ []) [] (to_place client (Client (TcBeginConf (Some 1) first_tx)) ∷ []) []
    ∷ []

pub ordering_do : Do lone 2 ordering ordering_steps
unfolding started fresh_part row tc_part_row tc.begin_row operate.operate_row operate.answer_row commit.verify_row
    commit.commit_row commit.committed_row all_committed completed_row sends.entering sends.phase_sends
    sends.front_sends sends.key_sends part_effects without dih.decide_row dih.end_row
ordering_do = (
  record { at = refl; stamped = refl; does = refl; marks = refl; asked = tt },
  (
    record { at = refl; stamped = refl; does = refl; marks = refl; asked = tt },
    (
      record { at = refl; stamped = refl; does = refl; marks = refl; asked = tt },
      (
        record { at = refl; stamped = refl; does = refl; marks = refl; asked = tt },
        (
          record { at = refl; stamped = refl; does = refl; marks = refl; asked = tt },
          (
            record { at = refl; stamped = refl; does = refl; marks = refl; asked = tt },
            (
              record { at = refl; stamped = refl; does = refl; marks = refl; asked = tt },
              (
                record { at = refl; stamped = refl; does = refl; marks = refl; asked = tt },
                (
                  record { at = refl; stamped = refl; does = refl; marks = refl; asked = tt },
                  (
                    record { at = refl; stamped = refl; does = refl; marks = refl; asked = tt },
                    (
                      record { at = refl; stamped = refl; does = refl; marks = refl; asked = tt },
                      (
                        record { at = refl; stamped = refl; does = refl; marks = refl; asked = tt },
                        (
                          record { at = refl; stamped = refl; does = refl; marks = refl; asked = tt },
                          (
                            record {
                              at = refl;
                              stamped = refl;
                              does = ap second_puts chain_is;
                              marks = refl;
                              asked = tt;
                            },
                            (
                              record { at = refl; stamped = refl; does = refl; marks = refl; asked = tt },
                              (
                                record { at = refl; stamped = refl; does = refl; marks = refl; asked = tt },
                                (
                                  record {
                                    at = refl;
                                    stamped = refl;
                                    does = ap first_puts chain_is;
                                    marks = refl;
                                    asked = tt;
                                  },
                                  (
                                    record { at = refl; stamped = refl; does = refl; marks = refl; asked = tt },
                                    tt,
                                  ),
                                ),
                              ),
                            ),
                          ),
                        ),
                      ),
                    ),
                  ),
                ),
              ),
            ),
          ),
        ),
      ),
    ),
  ),
)
