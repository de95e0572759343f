-- Each transaction of a coordinator has touched its keys rightly, along every run.
use Rattle.std.proofs.Common.{◌≡◌, ℕ, false, List, [], ◌∷◌, ◌++◌, refl, subst, sym}
use Rattle.std.specs.Prelude.{None}
use Rattle.run_theory.specs.Lists.{Each}
use Rattle.run_theory.proofs.Pasts.{each_append, each_map}
use Rattle.world_core.specs.Steps.{HostStep}
use Rattle.sig_core.specs.declared.member.TxId.{TxId}
use Rattle.sig_core.specs.declared.op.Answer.{Answer}
use Rattle.sig_core.specs.declared.op.Answer.TheVariants as answer
use Rattle.sig_core.specs.declared.op.Op.{Op}
use Rattle.sig_core.specs.declared.outs.Outgoing.{Outgoing}
use Rattle.sig_core.specs.declared.signal.Signal.{Signal}
use Rattle.frag_map.specs.Layout.{Layout, chain_of}
use Rattle.sig_core.specs.Op.{key_of}
use Rattle.tc_block.specs.declared.phase.Asked.{Asked}
use Rattle.tc_block.specs.declared.transaction.Transaction.{Transaction}
use Rattle.tc_block.specs.Operate.{answered, operating}
use Rattle.tc_block.specs.State.{TcState}
use Rattle.tc_block.specs.Tc.{tc_row}
use Rattle.node_core.proofs.HostCases.{keeps_tc}
use Rattle.world_core.specs.History.{is_done}
use Rattle.world_core.specs.Machine.{after}
use Rattle.world_core.specs.Start.{Start}
use Rattle.tc_block.proofs.LiveKeeps.{TurnsKeep, live_keeps}
use Rattle.host_laws.proofs.hosts.BlocksAlong.{first_live}
use Rattle.run_laws.specs.Keyed.{HasTouched, HasTouchedAsked, IsHostKeyed, IsTouchedRightly, TransactionsAreKeyed}
use Rattle.run_laws.specs.Transit.{logs_of}
use Rattle.run_laws.proofs.tokens.TouchedLists.{touch_apart, touch_more, touch_own, touch_written, undone_written}
use Rattle.run_laws.proofs.tokens.TouchedLists.{write_apart, write_touched, write_written}

-- of what is sent nothing is said
abbrev pub AnySend : Outgoing → Type 0
AnySend o = Unit {0}

pub any_sends : (sends : List Outgoing) → Each AnySend sends
any_sends [] = tt
any_sends (o ∷ sends) = (tt, any_sends sends)

pub operated_keyed : (t : Transaction) (op : Op) (layout : Layout) (tx : TxId) → IsTouchedRightly t
    → IsTouchedRightly (operating tx t op (chain_of layout (key_of op))).state
operated_keyed t op layout tx fine = record {
  apart = touch_apart t.touched (key_of op) (chain_of layout (key_of op)) fine.apart;
  answered = each_map (λ (o : Op × Answer). HasTouched t.touched (key_of o.0)) _ t.ops
      (λ o has. touch_more t.touched (key_of op) (key_of o.0) (chain_of layout (key_of op)) has) fine.answered;
  asked = touch_own t.touched (key_of op) (chain_of layout (key_of op));
  written = touch_written t.touched (key_of op) (chain_of layout (key_of op)) t.ops fine.answered fine.written;
}

-- an answer other than `Done` changes no key
undone_keyed : (t : Transaction) (asked : Asked) (a : Answer) → is_done a ≡ false
    → HasTouched t.touched (key_of asked.op) → IsTouchedRightly t
    → IsTouchedRightly (record {
      ops = t.ops ++ (asked.op, a) ∷ [];
      touched = t.touched;
      asked = None;
      phase = t.phase;
    })
undone_keyed t asked a undone on fine = record {
  apart = fine.apart;
  answered = each_append _ t.ops ((asked.op, a) ∷ []) fine.answered (on, tt);
  asked = tt;
  written = undone_written t.touched t.ops asked.op a undone fine.written;
}

answered_keyed : (t : Transaction) (asked : Asked) (a : Answer) → HasTouched t.touched (key_of asked.op)
    → IsTouchedRightly t → IsTouchedRightly (answered t asked a)
answered_keyed t asked answer.Done on fine = record {
  apart = write_apart t.touched (key_of asked.op) asked.chain fine.apart;
  answered = each_append _ t.ops ((asked.op, answer.Done) ∷ [])
      (each_map (λ (o : Op × Answer). HasTouched t.touched (key_of o.0)) _ t.ops
      (λ o has. write_touched t.touched (key_of asked.op) (key_of o.0) asked.chain has) fine.answered)
      (write_touched t.touched (key_of asked.op) (key_of asked.op) asked.chain on, tt);
  asked = tt;
  written = write_written t.touched asked.chain t.ops asked.op answer.Done refl fine.apart fine.written;
}
answered_keyed t asked (answer.Found value) on fine = undone_keyed t asked (answer.Found value) refl on fine
answered_keyed t asked answer.Missing on fine = undone_keyed t asked answer.Missing refl on fine
answered_keyed t asked answer.E626 on fine = undone_keyed t asked answer.E626 refl on fine
answered_keyed t asked answer.E630 on fine = undone_keyed t asked answer.E630 refl on fine

pub turns_keyed : (layout : Layout) → TurnsKeep (λ t. IsTouchedRightly t) AnySend layout
turns_keyed layout = record {
  phase = λ t phase fine. record {
    apart = fine.apart;
    answered = fine.answered;
    asked = fine.asked;
    written = fine.written;
  };
  unasked = λ t fine. record { apart = fine.apart; answered = fine.answered; asked = tt; written = fine.written };
  answered = λ t asked a is fine. answered_keyed t asked a (subst (HasTouchedAsked t.touched) is fine.asked) fine;
  sends = λ tx t phase fine. any_sends _;
  aborts = λ tx key. any_sends _;
  plain = λ o e. tt;
}

-- so it is of each host, along any log
tc_keyed : (s : TcState) (x : Signal) → Each (λ (e : TxId × Transaction). IsTouchedRightly e.1) s.live
    → Each (λ (e : TxId × Transaction). IsTouchedRightly e.1) (tc_row s x).state.live
tc_keyed s x all =
    (live_keeps (λ t. IsTouchedRightly t) AnySend s x.body
    (record { apart = tt; answered = tt; asked = tt; written = tt }) (turns_keyed s.layout)
    (λ tx t op fine. record { state = operated_keyed t op s.layout tx fine; sends = (tt, tt) }) all).live

pub log_keyed : (start : Start) (h : ℕ) (log : List HostStep) → IsHostKeyed (after start h log)
log_keyed start h [] = subst (Each (λ (e : TxId × Transaction). IsTouchedRightly e.1)) (sym (first_live start h)) tt
log_keyed start h (e ∷ log) =
    keeps_tc (λ s. Each (λ (e : TxId × Transaction). IsTouchedRightly e.1) s.live) tc_keyed (after start h log)
    e.step.taken (log_keyed start h log)

pub transactions_are_keyed : TransactionsAreKeyed
transactions_are_keyed start es h run = log_keyed start h (logs_of start es h)
