-- While an epoch is prepared, or a view is promised that isn't installed, nothing is given.
use Rattle.std.proofs.Common.{◌≡◌, ℕ, ◌+◌, Bool, true, false, nat_le, nat_lt, [], refl, sym}
use Rattle.std.proofs.lemmas.Bool.{false≢true}
use Rattle.std.specs.Prelude.{Some, ◌==◌, length}
use Rattle.sig_core.specs.declared.member.TxId.{TxId}
use Rattle.sig_core.specs.declared.signal.Body.{Body}
use Rattle.sig_core.specs.declared.signal.Body.TheVariants.{Host, Membership, Epoch}
use Rattle.sig_core.specs.declared.signal.epoch.EpochSignal.{EpochSignal}
use Rattle.sig_core.specs.declared.signal.epoch.EpochSignal.TheVariants.{DiVerifyReq, DiVerifyEnd, GcpPrepare}
use Rattle.sig_core.specs.declared.signal.epoch.EpochSignal.TheVariants.{GcpCommit, GcpClosed, CopyGciReq, GcpDone}
use Rattle.sig_core.specs.declared.signal.epoch.EpochSignal.TheVariants.{GcpStateReq}
use Rattle.sig_core.specs.declared.signal.host.HostSignal.TheVariants.{Continue}
use Rattle.sig_core.specs.declared.signal.host.Work.TheVariants.{Held}
use Rattle.sig_core.specs.declared.signal.membership.MembershipSignal.TheVariants.{FenceReq}
use Rattle.dih_node.specs.declared.dih.TheConstants.{TRANSACTIONS}
use Rattle.dih_node.specs.Dih.{dih_table, epoch_table}
use Rattle.dih_node.specs.Laws.{Installs, NoneIsGivenWhilePrepared, Takes, given_at}
use Rattle.dih_node.specs.Orders.{close_row, commit_if, commit_row, committed, copy_row, done_row, fence_row}
use Rattle.dih_node.specs.Orders.{install_row, prepare_row, state_row}
use Rattle.dih_node.specs.State.{DihState, gives}
use Rattle.dih_node.specs.Verify.{end_row, ended, reported, serve_if, serve_row, take_if, verify_if, verify_row}
use Rattle.dih_node.proofs.EpochLemmas.{goes_on_gives_none, quiet_gives_none, report_quiet}

verify_none : (s : DihState) (tx : TxId) → gives s ≡ false → given_at (verify_row s tx) ≡ []
unfolding verify_row
verify_none s tx e = by (nat_lt (length s.counted + length s.held) TRANSACTIONS)
  where
    by_if : (free : Bool) → free ≡ false → given_at (verify_if s tx free) ≡ []
    by_if true e = absurd (false≢true (sym e))
    by_if false e = refl

    by : (room : Bool) → given_at (take_if s tx room) ≡ []
    by true = by_if (gives s) e
    by false = refl

serve_none : (s : DihState) (number : ℕ) → gives s ≡ false → given_at (serve_row s number) ≡ []
unfolding serve_row
serve_none s number e = by (number == s.number) (gives s) e
  where
    by : (own free : Bool) → free ≡ false → given_at (serve_if s own free) ≡ []
    by own true e = absurd (false≢true (sym e))
    by true false e = refl
    by false false e = refl

end_none : (s : DihState) (tx : TxId) → given_at (end_row s tx) ≡ []
unfolding end_row
end_none s tx = quiet_gives_none (ended s tx) (reported (ended s tx)) (report_quiet (ended s tx))

commit_none : (s : DihState) (from epoch next : ℕ) → given_at (commit_row s from epoch next) ≡ []
unfolding commit_row
commit_none s from epoch next = by (nat_le s.current epoch)
  where
    by : (ahead : Bool) → given_at (commit_if s from epoch next ahead) ≡ []
    by true =
        let now = record (committed s epoch next) { order = Some (record { epoch = epoch; to = from }) } in
        goes_on_gives_none now (reported now) (report_quiet now)
    by false =
        let now = record s { order = Some (record { epoch = epoch; to = from }) } in
        quiet_gives_none now (reported now) (report_quiet now)

epoch_none : (s : DihState) (from : ℕ) (signal : EpochSignal) → gives s ≡ false
    → given_at (epoch_table s from signal) ≡ []
unfolding prepare_row close_row copy_row done_row state_row
epoch_none s from (DiVerifyReq tx ops) e = verify_none s tx e
epoch_none s from (DiVerifyEnd tx) e = end_none s tx
epoch_none s from (GcpPrepare epoch next) e = refl
epoch_none s from (GcpCommit epoch next) e = commit_none s from epoch next
epoch_none s from (GcpClosed epoch) e = refl
epoch_none s from (CopyGciReq epoch mask) e = refl
epoch_none s from (GcpDone epoch) e = refl
epoch_none s from GcpStateReq e = refl
epoch_none s from _ e = refl

body_none : (s : DihState) (from number : ℕ) (body : Body) → gives s ≡ false
    → given_at (dih_table s from number body) ≡ []
unfolding fence_row
body_none s from number (Host (Continue Held at)) e = serve_none s number e
body_none s from number (Membership (FenceReq proposal)) e = refl
body_none s from number (Epoch signal) e = epoch_none s from signal e
body_none s from number _ e = refl

pub none_while_prepared : NoneIsGivenWhilePrepared
unfolding install_row
none_while_prepared s (Takes x) e = body_none s x.member.node x.view.number x.body e
none_while_prepared s (Installs number) e = refl
