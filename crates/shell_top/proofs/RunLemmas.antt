-- What the program did by its words: a session, or nothing but to look at them.
use Rattle.std.proofs.Common.{◌≡◌, ◌∙◌, ℕ, List, [], ap, arith, inr, refl, sym, subst}
use Rattle.std.specs.Prelude.{Option, None, Some}
use Rattle.std.proofs.KnownBytes.{Consumes-nil}
use Rattle.shell_top.specs.declared.checked.Found.TheVariants as found
use Rattle.shell_top.specs.declared.ended.Ending.{Ending}
use Rattle.shell_top.specs.declared.ended.Ending.TheVariants as ending
use Rattle.shell_top.specs.declared.words.Asked.{Asked}
use Rattle.shell_top.specs.declared.words.Asked.TheVariants.{Check, Replies, Trace}
use Rattle.shell_top.specs.Run.{HasRun}
use Rattle.shell_top.specs.Seen.{Seen}
use Rattle.shell_top.specs.Session.{HasSession, IsSession}
use Rattle.shell_top.specs.Text.{status_after}
use Rattle.shell_top.proofs.EndLemmas.{session_unstarted}
use Rattle.sig_core.specs.declared.log.Life.{Life}
use Rattle.sig_core.specs.declared.view.Shape.{Shape}

-- a session and its status, where its lives, and what is seen of its disks, have other names
pub session_run : (shape : Shape) (left left_now written now : Option (List ℕ)) (ReadFailed WriteFailed : Type 0)
    → (given seen other : Seen) (e : Ending) (status : ℕ) (lives all : List Life) → all ≡ lives → other ≡ seen
    → status ≡ status_after e lives
    → IsSession (Some shape) left left_now written now ReadFailed WriteFailed given seen e lives
    → HasSession (Some shape) left left_now written now ReadFailed WriteFailed given other status all
session_run shape left left_now written now ReadFailed WriteFailed given seen other e status lives all same alike told
    session =
    subst (λ ls. HasSession (Some shape) left left_now written now ReadFailed WriteFailed given other status ls)
    (sym same)
    (record {
      ending = e;
      session = subst
          (λ s. IsSession (Some shape) left left_now written now ReadFailed WriteFailed given s e lives) (sym alike)
          session;
      told = told;
    })

module _ (left written : Option (List ℕ)) (ReadFailed WriteFailed : Type 0) (given seen : Seen) (same : seen ≡ given)
  where
    session_unrun : (asked : Option Shape)
        → HasSession asked left left written written ReadFailed WriteFailed given seen 5 []
    session_unrun asked = record {
      ending = ending.NoMemory;
      session =
          session_unstarted asked left written ReadFailed WriteFailed given seen ending.NoMemory [] refl refl same;
      told = refl;
    }

    unrun_of : (asked : Option Asked)
        → HasRun asked left left written written ReadFailed WriteFailed given seen 5 []
    unrun_of None = session_unrun None
    unrun_of (Some (Replies shape)) = session_unrun (Some shape)
    unrun_of (Some (Trace shape)) = record {
      ending = ending.NoMemory;
      session = session_unstarted (Some shape) left None ReadFailed ⊥ given seen ending.NoMemory [] refl refl same;
      unfailing = λ is. cc;
      told = inr (inr (refl, refl));
    }
    unrun_of (Some Check) = record {
      found = found.NoMemory;
      has_found = record { input = []; consumed = Consumes-nil left; is = tt; bounded = omega arith };
      told = inr (inr (refl, refl));
      no_life = refl;
    }

    -- memory was wanting
    pub unrun : (asked : Option Asked) (e : Ending) (status : ℕ) (lives : List Life) → status ≡ status_after e lives
        → e ≡ ending.NoMemory → lives ≡ []
        → HasRun asked left left written written ReadFailed WriteFailed given seen status lives
    unrun asked e status lives told is none =
        let five : status ≡ 5 = told ∙ ap (status_after e) none ∙ ap (λ x. status_after x []) is in
        subst (λ s. HasRun asked left left written written ReadFailed WriteFailed given seen s lives) (sym five)
        (subst (λ ls. HasRun asked left left written written ReadFailed WriteFailed given seen 5 ls) (sym none)
        (unrun_of asked))
