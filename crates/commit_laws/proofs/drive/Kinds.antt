-- Commits and completions of keys go along replicas until one tells of them: tests of signals by the transaction and
-- the key that they name.
use Rattle.std.proofs.Common.{◌≡◌, ◌+◌, ◌||◌, ◌&&◌, ◌==◌, ℕ, Bool, true, false, List, refl, arith}
use Rattle.std.proofs.lemmas.Bool.{true≢false}
use Rattle.sig_core.specs.declared.member.TxId.{TxId}
use Rattle.sig_core.specs.declared.signal.Body.{Body}
use Rattle.sig_core.specs.declared.signal.Body.TheVariants.{Chain}
use Rattle.sig_core.specs.declared.signal.chain.ChainSignal.TheVariants.{Commit, Committed, Complete, Completed}
use Rattle.sig_core.specs.declared.signal.Signal.{Signal}
use Rattle.tc_block.specs.Complete.{one_if}
use Rattle.request_laws.proofs.routes.BesideRows.{is_of_rows}

-- what is done to keys
pub data Drive : Type 0 where
  committing : Drive
  completing : Drive

-- keys of transactions
abbrev pub Keys : Type 0
Keys = TxId → List ℕ → Bool

-- such a key is to be committed, or completed, and was
abbrev pub goes : Drive → Keys → Body → Bool
goes committing w (Chain (Commit tx key epoch chain at)) = w tx key
goes completing w (Chain (Complete tx key chain at)) = w tx key
goes drive w body = false

abbrev pub comes : Drive → Keys → Body → Bool
comes committing w (Chain (Committed tx key)) = w tx key
comes completing w (Chain (Completed tx key)) = w tx key
comes drive w body = false

abbrev pub either : Drive → Keys → Body → Bool
either drive w body = goes drive w body || comes drive w body

-- the test, in the view of this number
abbrev pub numbered : ℕ → (Body → Bool) → Signal → Bool
numbered number p x = p x.body && (x.view.number == number)

-- of signals that aren't about rows it is none
pub either_aside : (drive : Drive) (w : Keys) (body : Body) → is_of_rows body ≡ false → either drive w body ≡ false
either_aside drive w (Chain signal) aside = absurd (true≢false aside)
either_aside committing w body aside = refl
either_aside completing w body aside = refl

-- it is one of both, and not the other
pub either_parts : (drive : Drive) (w : Keys) (body : Body)
    → one_if (either drive w body) ≡ one_if (goes drive w body) + one_if (comes drive w body)
either_parts committing w (Chain (Commit tx key epoch chain at)) = by (w tx key)
  where
    by : (b : Bool) → one_if (b || false) ≡ one_if b + 0
    by true = refl
    by false = refl
either_parts committing w (Chain (Committed tx key)) = omega arith
either_parts committing w body = refl
either_parts completing w (Chain (Complete tx key chain at)) = by (w tx key)
  where
    by : (b : Bool) → one_if (b || false) ≡ one_if b + 0
    by true = refl
    by false = refl
either_parts completing w (Chain (Completed tx key)) = omega arith
either_parts completing w body = refl
