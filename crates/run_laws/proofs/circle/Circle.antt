-- What is true of a transaction, of one key, after a run.
use Rattle.std.proofs.Common.{◌≡◌, ℕ, true, false, List, [], ap, sym, ◌∙◌, subst₂}
use Rattle.std.specs.Prelude.{is_some, Option, None, Some}
use Rattle.world_core.specs.Steps.{Addressed, HostStep}
use Rattle.sig_core.specs.declared.member.TxId.{TxId}
use Rattle.sig_core.specs.declared.rows.PendingRecord.{PendingRecord}
use Rattle.tc_block.specs.declared.transaction.Transaction.{Transaction}
use Rattle.world_core.specs.Hosts.{home}
use Rattle.world_core.specs.Start.{Start}
use Rattle.run_laws.specs.Circle.{Agree}
use Rattle.run_laws.specs.Live.{live_at}
use Rattle.run_laws.specs.Routes.{primary_host}
use Rattle.run_laws.specs.Transit.{host_after, logs_of}
use Rattle.run_laws.proofs.circle.Kept.{IsGoing}
use Rattle.run_laws.proofs.circle.View.{IsAs, Settles, View}
use Rattle.run_laws.proofs.hosts.HomeSteps.{IsUnborn}
use Rattle.run_laws.proofs.circle.Turns.{is_early}
use Rattle.run_laws.proofs.circle.ViewOf.{view_of}

-- nothing was done for it
pub record IsPristine (v : View) : Type 0 where
  pub made : v.made ≡ []
  pub alive : v.ended ≡ false
  pub none : (h : ℕ) → v.rec h ≡ None

pub pristine_as : (v w : View) → IsAs v w → IsPristine v → IsPristine w
pristine_as v w like p = record {
  made = like.made ∙ p.made;
  alive = like.ended ∙ p.alive;
  none = λ h. like.rec h ∙ p.none h;
}

-- so the key is settled
pub pristine_settles : (start : Start) (key : List ℕ) (v : View) → IsPristine v → Settles start key v []
pristine_settles start key v p = record {
  made = p.made;
  alive = p.alive;
  agreed = λ h is. agree (v.rec (primary_host start key)) (v.rec h) (p.none (primary_host start key)) (p.none h);
  others = λ h off. p.none h;
  written = ap is_some (p.none (primary_host start key));
}
  where
    agree : (a b : Option PendingRecord) → a ≡ None → b ≡ None → Agree a b
    agree a b is other = subst₂ Agree (sym is) (sym other) tt

-- Before it begins nothing is done for it; and while it is open, or waits for its epoch, it goes on.
pub record IsCircling (start : Start) (tx : TxId) (key : List ℕ) (es : List HostStep) (xs : List Addressed) : Type 0
  where
    pub pristine : IsUnborn tx (host_after start es (home start tx))
        → IsPristine (view_of start (logs_of start es) tx key)
    pub going : (t : Transaction) → live_at start (logs_of start es) tx ≡ Some t → is_early t.phase ≡ true
        → IsGoing start tx key (view_of start (logs_of start es) tx key) t xs
