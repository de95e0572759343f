-- A node refuses an operation for want of room or of time, or at an abort, and for no other cause.
use Rattle.std.proofs.Common.{◌≡◌, true, refl}
use Rattle.sig_core.specs.declared.outcome.AbortCause.{AbortCause}
use Rattle.sig_core.specs.declared.outcome.AbortCause.TheVariants.{LogFull, Request, TableFull, Timeout}
use Rattle.sig_core.specs.declared.signal.Body.{Body}
use Rattle.sig_core.specs.declared.signal.Body.TheVariants.{Chain, Client}
use Rattle.sig_core.specs.declared.signal.chain.ChainSignal.TheVariants.{LqhKeyRef}
use Rattle.sig_core.specs.declared.signal.client.ClientSignal.TheVariants.{TcRollbackRep}
use Rattle.lqh_block.specs.Lqh.{lqh_table}
use Rattle.lqh_block.specs.State.{LqhState}
use Rattle.host_laws.proofs.rows.Sends.{lqh_kinds}
use Rattle.host_laws.proofs.hosts.SendKinds.{SendsOnly, is_lqh_kind, is_row_cause, of_kind}
use Rattle.command_laws.proofs.ends.LivingTurns.{is_sound}
use Rattle.command_laws.specs.Living.{is_living}

row_lives : (why : AbortCause) → is_row_cause why ≡ true → is_living why ≡ true
row_lives (LogFull used reserved need) e = refl
row_lives (TableFull rows) e = refl
row_lives Timeout e = refl
row_lives Request e = refl
row_lives _ e = cc

kind_sound : (body : Body) → is_lqh_kind body ≡ true → is_sound body ≡ true
kind_sound (Chain (LqhKeyRef tx key why)) e = row_lives why e
kind_sound (Client (TcRollbackRep tx why)) e = cc
kind_sound _ e = refl

pub lqh_sound : (s : LqhState) (body : Body) → SendsOnly is_sound (lqh_table s body)
lqh_sound s body = of_kind is_lqh_kind is_sound kind_sound (lqh_table s body).effects.sends (lqh_kinds s body)
