-- Where a coordinator is fenced at a view above its own that was installed, all of its transactions keep to that view
-- that are undecided, aren't doomed and have no operation unanswered: the set that it has promised with the fence is a
-- part of it.
use Rattle.std.proofs.Common.{◌≡◌, ◌⊎◌, ◌≤◌, ◌<◌, ◌∙◌, ◌||◌, ℕ, Bool, true, false, List, [], ◌∷◌, refl, sym, ap, subst}
use Rattle.std.proofs.Common.{arith, inl, inr}
use Rattle.std.proofs.lemmas.Bool.{cases_lt, or_right}
use Rattle.std.specs.List.{list_any}
use Rattle.std.specs.Prelude.{not}
use Rattle.frag_map.specs.Layout.{first_view}
use Rattle.frag_map.specs.Replicas.{is_member}
use Rattle.run_theory.specs.Lists.{Each, IsIn}
use Rattle.run_theory.proofs.Pasts.{each_in, each_map}
use Rattle.sig_core.specs.declared.member.Member.{Member}
use Rattle.sig_core.specs.declared.member.TxId.{TxId}
use Rattle.sig_core.specs.declared.view.View.{View}
use Rattle.tc_block.specs.declared.transaction.Transaction.{Transaction}
use Rattle.tc_block.specs.Doom.{is_outside, strays}
use Rattle.tc_views.specs.State.{CoordinatorState}
use Rattle.world_core.specs.Start.{Start, made}
use Rattle.world_core.specs.Steps.{HostStep}
use Rattle.view_laws.specs.Ballots.{Ballots, HasPromised, IsChosen, Promised}
use Rattle.view_laws.specs.Runs.{WasInstalled, ballots_of, view_after}
use Rattle.view_laws.specs.Sets.{IsPart, all_of}
use Rattle.view_laws.proofs.eras.Rises.{view_rises}
use Rattle.view_laws.proofs.ballots.Promises.{one_promise}
use Rattle.view_laws.proofs.runs.Growth.{ballots_grow}
use Rattle.view_laws.proofs.runs.AllSound.{have_orderly}
use Rattle.view_laws.proofs.runs.Step.{started_view}
use Rattle.view_laws.proofs.runs.ChosenViews.{installed_chosen}
use Rattle.view_laws.proofs.ballots.MadeSets.{part_self}
use Rattle.moment_laws.specs.Moments.{IsMoment, logs_of}
use Rattle.moment_laws.specs.Places.{tc_of}
use Rattle.request_laws.specs.Blocks.{coordinator_after}
use Rattle.request_laws.specs.Strays.{HaleKeepTo, IsFencedBy, IsHale, KeepsTo}
use Rattle.request_laws.proofs.strays.FencesSpareNone.{fences_spare}
use Rattle.request_laws.proofs.strays.Numbers.{have_the_number}
use Rattle.request_laws.proofs.strays.PromisesShrink.{orderly, promise_part}

-- a test that fails wherever another does
none_either : {A : Type 0} (p q : A → Bool) → ((x : A) → p x ≡ false → q x ≡ false) → (xs : List A)
    → list_any p xs ≡ false → list_any q xs ≡ false
none_either p q fails [] none = refl
none_either {A} p q fails (x ∷ xs) none = by (p x) refl (none_either p q fails xs) none
  where
    by : (b : Bool) → p x ≡ b → (list_any p xs ≡ false → list_any q xs ≡ false) → (b || list_any p xs) ≡ false
        → (q x || list_any q xs) ≡ false
    by true is rest none = absurd cc
    by false is rest none = ap (λ b. b || list_any q xs) (fails x is) ∙ rest none

-- who is in one of these is in one of those
some_of : {A : Type 0} (p : A → Bool) (xs ys : List A) → Each (λ x. IsIn x ys ⊎ ⊥) xs → list_any p xs ≡ true
    → list_any p ys ≡ true
some_of p [] ys among some = absurd cc
some_of {A} p (x ∷ xs) ys among some = by (p x) refl some (some_of p xs ys among.1)
  where
    there : (zs : List A) → IsIn x zs → p x ≡ true → list_any p zs ≡ true
    there [] is one = absurd is
    there (z ∷ zs) (inl same) one = ap (λ b. b || list_any p zs) (ap p (sym same) ∙ one)
    there (z ∷ zs) (inr behind) one = or_right (p z) (list_any p zs) (there zs behind one)

    own : IsIn x ys ⊎ ⊥ → p x ≡ true → list_any p ys ≡ true
    own (inl is) one = there ys is one
    own (inr none) one = absurd none

    by : (b : Bool) → p x ≡ b → (b || list_any p xs) ≡ true → (list_any p xs ≡ true → list_any p ys ≡ true)
        → list_any p ys ≡ true
    by true is some rest = own among.0 is
    by false is some rest = rest some

-- who isn't outside of a part isn't outside
inside_part : (view set : View) → IsPart view set → (member : Member) → is_outside set member ≡ false
    → is_outside view member ≡ false
inside_part view set part member =
    by (list_any (is_member member) set.full) (list_any (is_member member) set.starting)
    (list_any (is_member member) view.full) (list_any (is_member member) view.starting)
    (some_of (is_member member) set.full view.full part.full)
    (some_of (is_member member) set.starting view.starting part.starting)
  where
    by : (a b c d : Bool) → (a ≡ true → c ≡ true) → (b ≡ true → d ≡ true) → not (a || b) ≡ false
        → not (c || d) ≡ false
    by true b true d full starting is = refl
    by true b false d full starting is = absurd (cc (full refl))
    by false true true d full starting is = refl
    by false true false true full starting is = refl
    by false true false false full starting is = absurd (cc (starting refl))
    by false false c d full starting is = absurd cc

-- so who keeps to a part keeps to the view
pub keeps_to_whole : (view set : View) → IsPart view set → (t : Transaction) → KeepsTo set t → KeepsTo view t
keeps_to_whole view set part t keeps =
    none_either (strays set) (strays view)
    (λ touched. none_either (is_outside set) (is_outside view) (inside_part view set part) touched.chain)
    t.touched keeps

module _ (start : Start) (all : ℕ → List HostStep) (es : List HostStep) (moment : IsMoment start all es)
    (member : Member) (there : IsIn member (made start)) (view : View) (was : WasInstalled start all view)
    (member_in : IsIn member (all_of view))
    (rises : (view_after start (tc_of start member) (logs_of start es (tc_of start member))).number < view.number)
    (fenced : view.number ≤ (coordinator_after start member (logs_of start es (tc_of start member))).fence)
  where
    abbrev h : ℕ
    h = tc_of start member

    abbrev log : List HostStep
    log = logs_of start es (tc_of start member)

    abbrev s : CoordinatorState
    s = coordinator_after start member log

    by_set : IsFencedBy start (logs_of start es) member
    by_set =
        let number = have_the_number start moment.cluster.nobody member log there in
        fences_spare start all es moment member there (omega (arith, number, rises, fenced))

    abbrev b : Ballots
    b = ballots_of start all

    abbrev OfSet : View → Promised
    OfSet set = record { set = set; adopted = false }

    set_promised : IsIn (OfSet by_set.set) (b.promises member)
    set_promised =
        (ballots_grow start (logs_of start es) all moment.inside).promises member (OfSet by_set.set) by_set.promised

    view_chosen : IsChosen start.shape b view
    view_chosen = installed_chosen have_orderly start all moment.cluster view was

    -- the view isn't the first
    not_before : (newer : List HostStep) → (first_view start.shape.nodes).number ≤ (view_after start h newer).number
    not_before [] =
        let is = ap (λ (v : View). v.number) (started_view start moment.cluster.nobody h) in omega (arith, is)
    not_before (f ∷ newer) =
        let up =
        view_rises start moment.cluster.nobody h newer f in let low = not_before newer in omega (arith, up, low)

    view_promised : IsIn (OfSet view) (b.promises member)
    view_promised = by view_chosen
      where
        by : IsChosen start.shape b view → IsIn (OfSet view) (b.promises member)
        by (inl first) =
            let is = ap (λ (v : View). v.number) first in
            let low = not_before log in
            absurd (omega (arith, is, low, rises))
        by (inr won) = (each_in (HasPromised b view) member (all_of view) won.backed member_in).promised

    set_part : IsPart view by_set.set
    set_part = by (cases_lt view.number by_set.set.number)
      where
        by : (view.number < by_set.set.number) ⊎ (by_set.set.number ≤ view.number) → IsPart view by_set.set
        by (inl below) =
            promise_part start all moment.cluster member there view by_set.set view_chosen view_promised set_promised
            below
        by (inr low) =
            let number = by_set.number_is in
            let is : view.number ≡ by_set.set.number = omega (arith, number, low, fenced) in
            let same : OfSet view ≡ OfSet by_set.set =
            one_promise b member (b.promises member) ((orderly start all moment.cluster).promises member) (OfSet view)
            (OfSet by_set.set) view_promised set_promised is in
            subst (IsPart view) (ap (λ (p : Promised). p.set) same) (part_self view)

    pub fenced_keep : HaleKeepTo view (coordinator_after start member (logs_of start es (tc_of start member)))
    fenced_keep =
        each_map (λ (x : TxId × Transaction). IsHale s x → KeepsTo by_set.set x.1)
        (λ (x : TxId × Transaction). IsHale s x → KeepsTo view x.1) s.tc.live
        (λ x keeps hale. keeps_to_whole view by_set.set set_part x.1 (keeps hale)) by_set.keep
