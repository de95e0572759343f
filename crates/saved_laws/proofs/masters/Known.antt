-- What a master knows of saved epochs is at most what each of the rows has told, and where it goes on with the system
-- files they have saved the epoch.
use Rattle.std.proofs.Common.{◌≡◌, ◌≤◌, Bool, true, false, refl, sym, ◌∙◌, arith, eq-eqb}
use Rattle.std.proofs.lemmas.Bool.{ltb-false, true≢false}
use Rattle.std.specs.Prelude.{◌==◌, ◌&&◌, if◌then◌else◌, nat_lt}
use Rattle.gcp_master.specs.declared.known.Known.{Known}
use Rattle.gcp_master.specs.declared.known.Told.{Told}
use Rattle.gcp_master.specs.declared.phase.Phase.TheVariants.{Committing, Copying, Preparing, Resting}
use Rattle.gcp_master.specs.declared.phase.Run.{Run}
use Rattle.gcp_master.specs.Known.{last_run, learned, learned_of_epochs, learned_of_rows, resumed}
use Rattle.gcp_master.specs.Numbers.{is_first}
use Rattle.epoch_laws.proofs.MasterKnows.{lesser_first, lesser_second}

-- what is known to be saved falls
pub saved_falls : (known : Known) (told : Told) → (learned known told).saved ≤ known.saved
saved_falls known told = by (told.current == 0)
  where
    by : (b : Bool) → (if b then learned_of_rows known told else learned_of_epochs known told).saved ≤ known.saved
    by true = lesser_first known.saved told.saved
    by false = omega arith

-- to what rows tell, at most
pub saved_below : (known : Known) (told : Told) → told.current ≡ 0 → (learned known told).saved ≤ told.saved
saved_below known told rows = by (told.current == 0) refl
  where
    by : (b : Bool) → (told.current == 0) ≡ b
        → (if b then learned_of_rows known told else learned_of_epochs known told).saved ≤ told.saved
    by true is = lesser_second known.saved told.saved
    by false is = absurd (true≢false (sym (eq-eqb told.current 0 rows) ∙ is))

-- a master that goes on with the system files knows that the epoch is saved
pub copies_saved : (known : Known) (run : Run) → resumed known ≡ Copying run → known.epoch ≤ known.saved
copies_saved known run =
    by (nat_lt known.greatest known.next) (nat_lt known.least known.next) (nat_lt known.closed known.epoch)
    (is_first known.next) (nat_lt known.saved known.epoch) (nat_lt known.durable known.epoch) refl
  where
    by : (a b c d f g : Bool) → nat_lt known.saved known.epoch ≡ f
        → (if a then Preparing (last_run known)
        else if b then Committing (last_run known)
        else if c then Committing (last_run known)
        else if d && f then Committing (last_run known)
        else if d && g then Copying (last_run known)
        else Resting known.next)
        ≡ Copying run
        → known.epoch ≤ known.saved
    by true b c d f g is_f is = absurd cc
    by false true c d f g is_f is = absurd cc
    by false false true d f g is_f is = absurd cc
    by false false false true true g is_f is = absurd cc
    by false false false true false true is_f is = ltb-false known.saved known.epoch is_f
    by false false false true false false is_f is = absurd cc
    by false false false false f g is_f is = absurd cc
