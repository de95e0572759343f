-- What is dropped changes nothing.
use Rattle.std.proofs.Common.{◌≡◌, true, false, refl}
use Rattle.sig_core.specs.declared.signal.Body.{Body}
use Rattle.sig_core.specs.declared.signal.Body.TheVariants.{Client}
use Rattle.sig_core.specs.declared.signal.Signal.{Signal}
use Rattle.sig_core.specs.declared.signal.client.ClientSignal.TheVariants.{TcCommitConf, TcRollbackRep, TcKeyFailConf}
use Rattle.sig_core.specs.declared.signal.client.ClientSignal.TheVariants.{TcKeyFailRef, NfCompleteRep}
use Rattle.sig_core.specs.Step.{stay}
use Rattle.api_views.specs.Client.{client_row, client_table, is_known}
use Rattle.api_views.specs.Members.{noted}
use Rattle.api_views.specs.Laws.{is_report}
use Rattle.api_views.specs.State.{ClientState}

-- by what the signal says
pub dropped_body : (s : ClientState) (x : Signal) (body : Body) → x.body ≡ body → is_report body ≡ true
    → is_known s x ≡ false
    → client_table s x body ≡ stay s
dropped_body s x (Client (TcCommitConf tx epoch)) is report known = rw (known, is) refl
dropped_body s x (Client (TcRollbackRep tx cause)) is report known = rw (known, is) refl
dropped_body s x (Client (TcKeyFailConf tx epoch)) is report known = rw (known, is) refl
dropped_body s x (Client (TcKeyFailRef tx)) is report known = rw (known, is) refl
dropped_body s x (Client NfCompleteRep) is report known = rw (known, is) refl
dropped_body s x _ is report known = cc

-- at any signal
pub dropped : (s : ClientState) (x : Signal) → is_report x.body ≡ true → is_known (noted s x.view) x ≡ false
    → client_row s x ≡ stay (noted s x.view)
dropped s x report known = dropped_body (noted s x.view) x x.body refl report known
