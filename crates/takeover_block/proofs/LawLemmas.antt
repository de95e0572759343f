-- What is true of a takeover along any list of signals.
use Rattle.std.proofs.Common.{◌≡◌, ◌∙◌, ◌≤◌, ◌-◌, ◌==◌, ℕ, zero, suc, Bool, true, false, List, [], ◌∷◌, length, nat_lt}
use Rattle.std.proofs.Common.{arith, refl, ap, sym, subst}
use Rattle.std.proofs.lemmas.Bool.{eqb-true}
use Rattle.std.proofs.lemmas.Bool.Decides.{nat_tests}
use Rattle.std.specs.Prelude.{Option, None, Some, remove, slice_get}
use Rattle.run_theory.specs.Lists.{Each}
use Rattle.run_theory.proofs.Pasts.{each_map}
use Rattle.sig_core.specs.declared.member.TxId.{TxId}
use Rattle.sig_core.specs.declared.outs.Outgoing.{Outgoing}
use Rattle.sig_core.specs.declared.signal.Body.{Body}
use Rattle.sig_core.specs.declared.signal.Body.TheVariants.{Takeover}
use Rattle.sig_core.specs.declared.signal.Signal.{Signal}
use Rattle.sig_core.specs.declared.signal.takeover.TakeoverSignal.TheVariants.{TakeoverOrd, LqhTransConf, LqhTransEnd}
use Rattle.sig_core.specs.Same.{same_tx}
use Rattle.sig_core.specs.Step.{Step, sends_only, stay}
use Rattle.sig_core.proofs.TxLemmas.{same_tx-is}
use Rattle.frag_map.specs.Layout.{Layout}
use Rattle.takeover_block.specs.declared.gathered.Gathered.{Gathered}
use Rattle.takeover_block.specs.declared.stage.Stage.{Stage}
use Rattle.takeover_block.specs.declared.stage.Stage.TheVariants.{Resting, Gathering, Committing, Completing, Aborting}
use Rattle.takeover_block.specs.Gather.{ask_by, asking, member_count, order_if}
use Rattle.takeover_block.specs.Gathered.{first_of, noted, only, only_of, told_epoch}
use Rattle.takeover_block.specs.Rule as rule
use Rattle.takeover_block.specs.Sends.{told_aborted}
use Rattle.takeover_block.specs.State.{TakeoverState, at_stage, resting, with_gathered}
use Rattle.takeover_block.specs.Takeover.{takeover_row, takeover_table}
use Rattle.takeover_block.specs.Laws.{AbortIsUntold, AbortsWhatNobodyCommitted, AllHaveEnded, CommitIsTold}
use Rattle.takeover_block.specs.Laws.{CommitsWhatWasTold, EachSent, Heard, IsTold, IsUntold, RulesWhenAllHaveEnded}
use Rattle.takeover_block.specs.Laws.{Telling, hear, hear_if, telling, unordered}
use Rattle.takeover_block.proofs.EachTakeover.{is_gathering, is_heard, takeover_each}
use Rattle.takeover_block.proofs.SentLemmas.{AreRight, FitsTold, IsRight, ask_right, stage_right}
use Rattle.takeover_block.proofs.SoundLemmas.{Agrees, AgreesBy, Covers, IsGathered, noted_sound}

-- P is of the first of these, if there is one
abbrev pub First : (Gathered → Type 0) → List Gathered → Type 0
First P [] = Unit {0}
First P (g ∷ gs) = P g

-- while members have still to end it is gathering, and has gathered all that was told; once all have, its stage fits
-- what was told of the first of the transactions
abbrev FitsHeard : Heard → List Gathered → Stage → Type 0
FitsHeard h gs (Gathering n) = (h.awaited ≡ n) × (1 ≤ n) × Covers gs h.told
FitsHeard h gs Resting = h.awaited ≡ 0
FitsHeard h gs (Committing e n) = (h.awaited ≡ 0) × First (λ g. IsTold h.told g.tx e) gs
FitsHeard h gs (Completing e n) = (h.awaited ≡ 0) × First (λ g. IsTold h.told g.tx e) gs
FitsHeard h gs (Aborting n) = (h.awaited ≡ 0) × First (λ g. IsUntold h.told g.tx) gs

record IsSound (s : TakeoverState) (h : Heard) : Type 0 where
  gathered : IsGathered h.told s.gathered
  fits : FitsHeard h s.gathered s.stage

-- a step from one sound state to another, at which all that is sent is right
record StepIsSound (before : Layout) (h : Heard) (step : Step TakeoverState) : Type 0 where
  same : step.state.layout ≡ before
  state : IsSound step.state h
  sends : AreRight h step.effects.sends

-- the first of a list
pub each_first : (P : Gathered → Type 0) (gs : List Gathered) (g : Gathered) → slice_get gs 0 ≡ Some g → Each P gs → P g
each_first P [] g is each = absurd cc
each_first P (x ∷ xs) g is each = let same : x ≡ g = cc in subst P same each.0

pub first_with : (P : Gathered → Type 0) (gs : List Gathered) (g : Gathered) → slice_get gs 0 ≡ Some g → P g
    → First P gs
first_with P [] g is own = absurd cc
first_with P (x ∷ xs) g is own = let same : g ≡ x = cc in subst P same own

pub first_is : (P : Gathered → Type 0) (gs : List Gathered) (g : Gathered) → slice_get gs 0 ≡ Some g → First P gs → P g
first_is P [] g is first = absurd cc
first_is P (x ∷ xs) g is first = let same : x ≡ g = cc in subst P same first

pub record IsFirst (gs : List Gathered) (tx : TxId) (g : Gathered) : Type 0 where
  pub there : slice_get gs 0 ≡ Some g
  pub own : g.tx ≡ tx

pub first_found : (gs : List Gathered) (tx : TxId) (g : Gathered) → first_of gs tx ≡ Some g → IsFirst gs tx g
unfolding first_of
first_found gs tx g is = by (slice_get gs 0) refl is
  where
    only_own : (x : Gathered) → slice_get gs 0 ≡ Some x → (b : Bool) → same_tx x.tx tx ≡ b → only tx x b ≡ Some g
        → IsFirst gs tx g
    only_own x there true own is =
        let same : x ≡ g = cc in
        record { there = there ∙ ap Some same; own = ap (λ (g : Gathered). g.tx) (sym same) ∙ same_tx-is x.tx tx own }
    only_own x there false own is = absurd cc

    by : (o : Option Gathered) → slice_get gs 0 ≡ o → only_of tx o ≡ Some g → IsFirst gs tx g
    by None there is = absurd cc
    by (Some x) there is = only_own x there (same_tx x.tx tx) refl is

without_first : (told : List Telling) (gs : List Gathered) → IsGathered told gs → IsGathered told (remove gs 0)
without_first told [] got = got
without_first told (g ∷ gs) got = record { each = got.each.1; distinct = got.distinct.1 }

-- nobody has still to end
none_left : (h : Heard) (gs : List Gathered) (stage : Stage) → is_gathering stage ≡ false → FitsHeard h gs stage
    → h.awaited ≡ 0
none_left h gs (Gathering n) idle fits = absurd cc
none_left h gs Resting idle fits = fits
none_left h gs (Committing e n) idle fits = fits.0
none_left h gs (Completing e n) idle fits = fits.0
none_left h gs (Aborting n) idle fits = fits.0

-- an end that comes when all have ended tells nothing
ended_still : (h : Heard) (gs : List Gathered) (stage : Stage) → is_gathering stage ≡ false → FitsHeard h gs stage
    → FitsHeard (record { awaited = h.awaited - 1; told = h.told }) gs stage
ended_still h gs (Gathering n) idle fits = absurd cc
ended_still h gs Resting idle fits = ap (λ a. a - 1) fits
ended_still h gs (Committing e n) idle fits = (ap (λ a. a - 1) fits.0, fits.1)
ended_still h gs (Completing e n) idle fits = (ap (λ a. a - 1) fits.0, fits.1)
ended_still h gs (Aborting n) idle fits = (ap (λ a. a - 1) fits.0, fits.1)

pub least_of : (n : ℕ) → (n == 0) ≡ false → 1 ≤ n
least_of zero some = absurd cc
least_of (suc n) some = omega arith

pub is_some_of : (awaited n : ℕ) → awaited ≡ n → 1 ≤ n → nat_lt 0 awaited ≡ true
is_some_of awaited n same least = grind (arith, nat_tests)

pub least_less : (n : ℕ) → nat_lt 1 n ≡ true → 1 ≤ n - 1
least_less n more = grind (arith, nat_tests)

pub none_less : (awaited n : ℕ) → awaited ≡ n → nat_lt 1 n ≡ false → awaited - 1 ≡ 0
none_less awaited n same last = grind (arith, nat_tests)

-- the first of the transactions is ruled on by what was told of it
ruled : (s : TakeoverState) (h : Heard) → h.awaited ≡ 0 → IsGathered h.told s.gathered
    → StepIsSound s.layout h (rule.ruling s)
unfolding rule.ruling rule.entering rule.way_of
ruled s h none got = by (slice_get s.gathered 0) refl
  where
    told : (g : Gathered) → slice_get s.gathered 0 ≡ Some g → (epoch : Option ℕ) → AgreesBy h.told g.tx epoch
        → StepIsSound s.layout h (rule.entering s g (rule.way_by s.layout g.keys epoch))
    told g there (Some e) a = record {
      same = refl;
      state = record {
        gathered = got;
        fits = (none, first_with (λ g. IsTold h.told g.tx e) s.gathered g there a);
      };
      sends = stage_right h none s.node s.layout (rule.way_by s.layout g.keys (Some e)) g 0 a;
    }
    told g there None a = record {
      same = refl;
      state = record {
        gathered = got;
        fits = (none, first_with (λ g. IsUntold h.told g.tx) s.gathered g there a);
      };
      sends = stage_right h none s.node s.layout (rule.way_by s.layout g.keys None) g 0 a;
    }

    by : (o : Option Gathered) → slice_get s.gathered 0 ≡ o → StepIsSound s.layout h (rule.ruling_by s o)
    by None there = record {
      same = refl;
      state = record { gathered = got; fits = none };
      sends = (record { commit = tt; abort = tt; ended = none }, (record { commit = tt; abort = tt; ended = tt }, tt));
    }
    by (Some g) there = told g there g.epoch (each_first (Agrees h.told) s.gathered g there got.each)

finished : (s : TakeoverState) (h : Heard) → h.awaited ≡ 0 → IsGathered h.told s.gathered
    → StepIsSound s.layout h (rule.finishing s)
unfolding rule.finishing
finished s h none got =
    ruled (with_gathered s (remove s.gathered 0)) h none (without_first h.told s.gathered got)

-- what was heard up to and with a signal
abbrev heard_at : TakeoverState → Heard → Body → Heard
heard_at s h body = hear (member_count s.layout.view) h body

not_heard : (members : ℕ) (h : Heard) (body : Body) → is_heard body ≡ false → h ≡ hear members h body
not_heard members h (Takeover TakeoverOrd) other = absurd cc
not_heard members h (Takeover (LqhTransConf tx key state epoch)) other = absurd cc
not_heard members h (Takeover LqhTransEnd) other = absurd cc
not_heard members h _ other = refl

module _ (s : TakeoverState) (h : Heard) (sound : IsSound s h) where
  fits_at : (stage : Stage) → s.stage ≡ stage → FitsHeard h s.gathered stage
  fits_at stage is = subst (FitsHeard h s.gathered) is sound.fits

  stays : StepIsSound s.layout h (stay s)
  stays = record { same = refl; state = sound; sends = tt }

  ordered : (none : Bool) → (member_count s.layout.view == 0) ≡ none
      → StepIsSound s.layout (heard_at s h (Takeover TakeoverOrd)) (order_if s (member_count s.layout.view) none)
  ordered true none =
      ruled (asking s (member_count s.layout.view) 0) (heard_at s h (Takeover TakeoverOrd))
      (eqb-true (member_count s.layout.view) 0 none) (record { each = tt; distinct = tt })
  ordered false some =
      let least : 1 ≤ member_count s.layout.view = least_of (member_count s.layout.view) some in
      record {
        same = refl;
        state = record { gathered = record { each = tt; distinct = tt }; fits = (refl, least, tt) };
        sends = ask_right (heard_at s h (Takeover TakeoverOrd)) s.node s.layout.view 0;
      }

  asked : (place n : ℕ) → s.stage ≡ Gathering n → StepIsSound s.layout h (ask_by s place true (Gathering n))
  asked place n is = record {
    same = refl;
    state = record { gathered = sound.gathered; fits = sound.fits };
    sends = ask_right h s.node s.layout.view place;
  }

  untold : (t : Telling) → is_gathering s.stage ≡ false
      → StepIsSound s.layout (hear_if h t (nat_lt 0 h.awaited)) (stay s)
  untold t idle =
      subst (λ n. StepIsSound s.layout (hear_if h t (nat_lt 0 n)) (stay s))
      (sym (none_left h s.gathered s.stage idle sound.fits)) stays

  told : (tx : TxId) (key : List ℕ) (epoch : Option ℕ) (n : ℕ) → s.stage ≡ Gathering n
      → StepIsSound s.layout (hear_if h (telling tx epoch) (nat_lt 0 h.awaited))
      (stay (with_gathered s (noted s.gathered tx key epoch)))
  told tx key epoch n is =
      let fits = fits_at (Gathering n) is in
      let some : nat_lt 0 h.awaited ≡ true = is_some_of h.awaited n fits.0 fits.1 in
      let now = noted_sound h.told tx key epoch s.gathered
      (record { gathered = sound.gathered; covers = fits.2 }) in
      let after : FitsHeard (hear_if h (telling tx epoch) true) (noted s.gathered tx key epoch) (Gathering n) =
      (fits.0, fits.1, now.covers) in
      subst (λ b. StepIsSound s.layout (hear_if h (telling tx epoch) b)
      (stay (with_gathered s (noted s.gathered tx key epoch)))) (sym some) (record {
        same = refl;
        state = record {
          gathered = now.gathered;
          fits = subst (FitsHeard (hear_if h (telling tx epoch) true) (noted s.gathered tx key epoch)) (sym is) after;
        };
        sends = tt;
      })

  unended : is_gathering s.stage ≡ false → StepIsSound s.layout (heard_at s h (Takeover LqhTransEnd)) (stay s)
  unended idle = record {
    same = refl;
    state = record {
      gathered = record { each = sound.gathered.each; distinct = sound.gathered.distinct };
      fits = ended_still h s.gathered s.stage idle sound.fits;
    };
    sends = tt;
  }

  ended : (n : ℕ) → s.stage ≡ Gathering n → nat_lt 1 n ≡ true
      → StepIsSound s.layout (heard_at s h (Takeover LqhTransEnd)) (stay (at_stage s (Gathering (n - 1))))
  ended n is more =
      let fits = fits_at (Gathering n) is in
      let least : 1 ≤ n - 1 = least_less n more in
      record {
        same = refl;
        state = record {
          gathered = record { each = sound.gathered.each; distinct = sound.gathered.distinct };
          fits = (ap (λ a. a - 1) fits.0, least, fits.2);
        };
        sends = tt;
      }

  all_ended : (n : ℕ) → s.stage ≡ Gathering n → nat_lt 1 n ≡ false
      → StepIsSound s.layout (heard_at s h (Takeover LqhTransEnd)) (rule.ruling s)
  all_ended n is last =
      ruled s (heard_at s h (Takeover LqhTransEnd)) (none_less h.awaited n (fits_at (Gathering n) is).0 last)
      (record { each = sound.gathered.each; distinct = sound.gathered.distinct })

  -- the stage stays, and only its count changes
  counted : (stage : Stage) → FitsHeard h s.gathered stage → StepIsSound s.layout h (stay (at_stage s stage))
  counted stage fits = record { same = refl; state = record { gathered = sound.gathered; fits = fits }; sends = tt }

  all_committed : (tx : TxId) (g : Gathered) (e n : ℕ) → first_of s.gathered tx ≡ Some g → s.stage ≡ Committing e n
      → StepIsSound s.layout h (rule.entering s g (Completing e (length g.keys)))
  unfolding rule.entering
  all_committed tx g e n first is =
      let fits = fits_at (Committing e n) is in
      let found = first_found s.gathered tx g first in
      record {
        same = refl;
        state = record { gathered = sound.gathered; fits = (fits.0, fits.1) };
        sends = stage_right h fits.0 s.node s.layout (Completing e (length g.keys)) g 0
            (first_is (λ g. IsTold h.told g.tx e) s.gathered g found.there fits.1);
      }

  all_aborted : (tx : TxId) (g : Gathered) (n : ℕ) → first_of s.gathered tx ≡ Some g → s.stage ≡ Aborting n
      → StepIsSound s.layout h (rule.after (sends_only (told_aborted tx ∷ [])) (rule.finishing s))
  all_aborted tx g n first is =
      let fits = fits_at (Aborting n) is in
      let found = first_found s.gathered tx g first in
      let next = finished s h fits.0 sound.gathered in
      let untold : IsUntold h.told tx =
      subst (IsUntold h.told) found.own (first_is (λ g. IsUntold h.told g.tx) s.gathered g found.there fits.1) in
      record {
        same = next.same;
        state = next.state;
        sends = (record { commit = tt; abort = untold; ended = fits.0 }, next.sends);
      }

  -- what a stage at work fits
  at_work : (stage : Stage) (g : Gathered) → rule.is_at_work stage ≡ true → slice_get s.gathered 0 ≡ Some g
      → FitsHeard h s.gathered stage → (h.awaited ≡ 0) × FitsTold h g.tx stage
  at_work (Committing e n) g work there fits =
      (fits.0, first_is (λ g. IsTold h.told g.tx e) s.gathered g there fits.1)
  at_work (Completing e n) g work there fits =
      (fits.0, first_is (λ g. IsTold h.told g.tx e) s.gathered g there fits.1)
  at_work (Aborting n) g work there fits =
      (fits.0, first_is (λ g. IsUntold h.told g.tx) s.gathered g there fits.1)
  at_work Resting g work there fits = absurd cc
  at_work (Gathering n) g work there fits = absurd cc

  went_on : (tx : TxId) (place : ℕ) (g : Gathered) → rule.is_at_work s.stage ≡ true → first_of s.gathered tx ≡ Some g
      → StepIsSound s.layout h (rule.sending_on s g place)
  went_on tx place g work first =
      let fits = at_work s.stage g work (first_found s.gathered tx g first).there sound.fits in
      record {
        same = refl;
        state = record { gathered = sound.gathered; fits = sound.fits };
        sends = stage_right h fits.0 s.node s.layout s.stage g place fits.1;
      }

  -- whatever signal comes
  step_sound : (body : Body) → StepIsSound s.layout (heard_at s h body) (takeover_table s body)
  step_sound body =
      takeover_each s (StepIsSound s.layout (heard_at s h body)) body (record {
        stays = λ other. still other (stay s) stays;
        untold = λ tx key state epoch is idle.
            at_body _ is (stay s) (untold (telling tx (told_epoch state epoch)) idle);
        unended = λ is idle. at_body _ is (stay s) (unended idle);
        orders = λ is some. at_body _ is _ (ordered false some);
        orders_nobody = λ is none. at_body _ is _ (ordered true none);
        asks = λ place n is due at. still (ap is_heard is) _ (asked place n at);
        tells = λ tx key state epoch n is at. at_body _ is _ (told tx key (told_epoch state epoch) n at);
        ends = λ n is at more. at_body _ is _ (ended n at more);
        all_end = λ n is at last. at_body _ is _ (all_ended n at last);
        commits = λ tx key g e n is first at more.
            still (ap is_heard is) _ (counted (Committing e (n - 1)) (fits_at (Committing e n) at));
        all_commit = λ tx key g e n is first at last. still (ap is_heard is) _ (all_committed tx g e n first at);
        completes = λ tx key g e n is first at more.
            still (ap is_heard is) _ (counted (Completing e (n - 1)) (fits_at (Completing e n) at));
        all_complete = λ tx key g e n is first at last.
            still (ap is_heard is) _ (finished s h (fits_at (Completing e n) at).0 sound.gathered);
        aborts = λ tx key g n is first at more.
            still (ap is_heard is) _ (counted (Aborting (n - 1)) (fits_at (Aborting n) at));
        all_abort = λ tx key g n is first at last. still (ap is_heard is) _ (all_aborted tx g n first at);
        goes_on = λ tx place g is due work first. still (ap is_heard is) _ (went_on tx place g work first);
      })
    where
      still : is_heard body ≡ false → (step : Step TakeoverState) → StepIsSound s.layout h step
          → StepIsSound s.layout (heard_at s h body) step
      still other step so =
          subst (λ h. StepIsSound s.layout h step) (not_heard (member_count s.layout.view) h body other) so

      at_body : (b : Body) → body ≡ b → (step : Step TakeoverState) → StepIsSound s.layout (heard_at s h b) step
          → StepIsSound s.layout (heard_at s h body) step
      at_body b is step so = subst (λ b. StepIsSound s.layout (heard_at s h b) step) (sym is) so

-- and so along all signals
along : (members : ℕ) (s : TakeoverState) (h : Heard) (xs : List Signal) → members ≡ member_count s.layout.view
    → IsSound s h → EachSent (hear members) (λ h send. IsRight h send.body) s h xs
along members s h [] is sound = tt
along members s h (x ∷ xs) is sound =
    let step = subst (λ n. StepIsSound s.layout (hear n h x.body) (takeover_row s x)) (sym is)
    (step_sound s h sound x.body) in (
      step.sends,
      along members (takeover_row s x).state (hear members h x.body) xs
          (is ∙ ap (λ (l : Layout). member_count l.view) (sym step.same)) step.state,
    )

weaker : (P Q : Heard → Outgoing → Type 0) → ((h : Heard) (send : Outgoing) → P h send → Q h send)
    → (members : ℕ) (s : TakeoverState) (h : Heard) (xs : List Signal) → EachSent (hear members) P s h xs
    → EachSent (hear members) Q s h xs
weaker P Q f members s h [] e = tt
weaker P Q f members s h (x ∷ xs) e = (
  each_map (P (hear members h x.body)) (Q (hear members h x.body)) (takeover_row s x).effects.sends
      (f (hear members h x.body)) e.0,
  weaker P Q f members (takeover_row s x).state (hear members h x.body) xs e.1,
)

from_rest : (node : ℕ) (layout : Layout) (xs : List Signal)
    → EachSent (hear (member_count layout.view)) (λ h send. IsRight h send.body) (resting node layout) unordered xs
from_rest node layout xs =
    along (member_count layout.view) (resting node layout) unordered xs refl
    (record { gathered = record { each = tt; distinct = tt }; fits = refl })

pub commits_told : CommitsWhatWasTold
commits_told node layout xs =
    weaker (λ h send. IsRight h send.body) (λ h send. CommitIsTold h send.body) (λ h send right. right.commit)
    (member_count layout.view) (resting node layout) unordered xs (from_rest node layout xs)

pub aborts_untold : AbortsWhatNobodyCommitted
aborts_untold node layout xs =
    weaker (λ h send. IsRight h send.body) (λ h send. AbortIsUntold h send.body) (λ h send right. right.abort)
    (member_count layout.view) (resting node layout) unordered xs (from_rest node layout xs)

pub rules_last : RulesWhenAllHaveEnded
rules_last node layout xs =
    weaker (λ h send. IsRight h send.body) (λ h send. AllHaveEnded h send.body) (λ h send right. right.ended)
    (member_count layout.view) (resting node layout) unordered xs (from_rest node layout xs)
