-- Each step of a takeover leads on with the commits of a transaction on a key as it should.
use Rattle.std.proofs.Common.{◌≡◌, ◌≤◌, ◌<◌, ◌+◌, ◌⊎◌, ◌==◌, ◌&&◌, ◌++◌, ◌∙◌, ℕ, Bool, true, false, None, Some, Option}
use Rattle.std.proofs.Common.{List, [], ◌∷◌, drop, inl, inr, length, map, nat_lt, refl, sym, ap, arith, subst, take}
use Rattle.std.proofs.lemmas.Bool.{and_parts, eqb-true, ltb-true, or_left, or_right, true≢false}
use Rattle.std.specs.List.{flat_map}
use Rattle.std.specs.Prelude.{◌-◌, remove, slice_get}
use Rattle.run_theory.specs.Lists.{Each}
use Rattle.run_theory.proofs.EachSent.{each_drop, each_mapped, each_take}
use Rattle.run_theory.proofs.Pasts.{each_append}
use Rattle.sig_core.specs.declared.member.Member.{Member}
use Rattle.sig_core.specs.declared.member.TxId.{TxId}
use Rattle.sig_core.specs.declared.outs.Outgoing.{Outgoing}
use Rattle.sig_core.specs.declared.portion.TheConstants.{PORTION}
use Rattle.sig_core.specs.declared.signal.Body.TheVariants.{Takeover}
use Rattle.sig_core.specs.declared.signal.host.Work.TheVariants as work
use Rattle.sig_core.specs.declared.signal.Signal.{Signal}
use Rattle.sig_core.specs.declared.signal.takeover.TakeoverSignal.TheVariants.{TakeoverOrd}
use Rattle.sig_core.specs.declared.view.View.{View}
use Rattle.sig_core.specs.Place.{takeover}
use Rattle.sig_core.specs.Portion.{left_if, rest_if}
use Rattle.sig_core.specs.Same.{same_tx}
use Rattle.sig_core.specs.Step.{Step, sends_only}
use Rattle.frag_map.specs.Layout.{Layout}
use Rattle.tc_block.specs.Complete.{one_if}
use Rattle.takeover_block.specs.declared.gathered.Gathered.{Gathered}
use Rattle.takeover_block.specs.declared.stage.Stage.{Stage}
use Rattle.takeover_block.specs.declared.stage.Stage.TheVariants.{Aborting, Committing, Completing, Gathering, Resting}
use Rattle.takeover_block.specs.Gather.{asking, member_count}
use Rattle.takeover_block.specs.declared.sends.TheConstants.{SENDS}
use Rattle.takeover_block.proofs.LawLemmas.{first_found}
use Rattle.takeover_block.specs.Rule.{sending_on, entering, finishing, is_at_work, is_left, ruling, ruling_by, way_by}
use Rattle.takeover_block.specs.Rule.{way_of}
use Rattle.takeover_block.specs.Sends.{ask_effects, ask_of, asks_of, front_sends, key_sends, stage_effects}
use Rattle.takeover_block.specs.Sends.{stage_left, stage_sends, told_aborted, told_over}
use Rattle.takeover_block.specs.State.{TakeoverState, with_gathered}
use Rattle.takeover_block.specs.Takeover.{takeover_row}
use Rattle.takeover_block.proofs.EachTakeover.{takeover_each}
use Rattle.outcome_laws.proofs.coordinators.Lists.{count_both, count_more, none_counted}
use Rattle.commit_laws.proofs.drive.Kinds.{Drive, committing, completing, goes}
use Rattle.commit_laws.proofs.drive.Lists.{mine, only, portion_more, taken_less}
use Rattle.commit_laws.proofs.drive.Rulings.{IsAt, IsSentTo, Rules, Works, awaits, counted, has_tx, rests, works}
use Rattle.commit_laws.proofs.drive.Rulings.{works_once}
use Rattle.commit_laws.proofs.drive.Stages.{KeysApart, front_none, is_way, key_count, stage_none}

module _ (tx : TxId) (key : List ℕ) where
  -- a part of a list
  module _ (node : ℕ) (layout : Layout) (stage : Stage) (g : Gathered) (at : ℕ) where
    abbrev list : List Outgoing
    list = stage_sends layout stage g

    part_few : (drive : Drive)
        → counted tx key drive (stage_effects node layout stage g at).sends + counted tx key drive (take at list)
        ≤ counted tx key drive (take (at + PORTION) list)
    unfolding stage_effects
    part_few drive =
        omega (
          arith,
          count_both (λ (o : Outgoing). goes drive (mine tx (only key)) o.body) (take PORTION (drop at list))
              (rest_if (takeover node) (work.Transaction g.tx) at (nat_lt (at + PORTION) (length list))),
          none drive (nat_lt (at + PORTION) (length list)),
          portion_more (λ (o : Outgoing). goes drive (mine tx (only key)) o.body) at list,
        )
      where
        none : (d : Drive) (b : Bool)
            → counted tx key d (rest_if (takeover node) (work.Transaction g.tx) at b) ≡ 0
        none committing true = refl
        none completing true = refl
        none committing false = refl
        none completing false = refl

    part_all : (drive : Drive)
        → counted tx key drive (stage_effects node layout stage g at).sends ≤ counted tx key drive list
    part_all drive =
        omega (
          arith,
          part_few drive,
          taken_less (λ (o : Outgoing). goes drive (mine tx (only key)) o.body) (at + PORTION) list,
        )

    left_so : (stage_left layout stage g at ≡ 0) ⊎ (stage_left layout stage g at ≡ at + PORTION)
    unfolding stage_left
    left_so = by (nat_lt (at + PORTION) (length list))
      where
        by : (b : Bool) → (left_if at b ≡ 0) ⊎ (left_if at b ≡ at + PORTION)
        by true = inr refl
        by false = inl refl

  -- an event adds what is sent
  abbrev pub Adds : (Drive → ℕ) → (Drive → ℕ) → List Outgoing → Type 0
  Adds sent sent_now sends = (drive : Drive) → sent_now drive ≤ sent drive + counted tx key drive sends

  module _ (sent sent_now : Drive → ℕ) where
    -- what has been sent of a list, and some more of it
    goes_further : (node : ℕ) (layout : Layout) (stage : Stage) (g : Gathered) (at : ℕ) (drive : Drive)
        → sent drive ≤ counted tx key drive (take at (stage_sends layout stage g))
        → Adds sent sent_now (stage_effects node layout stage g at).sends
        → IsSentTo tx key (stage_left layout stage g at) (sent_now drive) drive (stage_sends layout stage g)
    goes_further node layout stage g at drive few adds = record {
      place = at + PORTION;
      left_is = left_so node layout stage g at;
      few = omega (arith, few, adds drive, part_few node layout stage g at drive);
    }

    -- of the other drive nothing comes
    other_way : (node : ℕ) (layout : Layout) (stage : Stage) (g : Gathered) (at : ℕ) (drive : Drive)
        → is_way drive stage ≡ false → Adds sent sent_now (stage_effects node layout stage g at).sends
        → sent_now drive ≤ sent drive
    other_way node layout stage g at drive off adds =
        omega (
          arith,
          adds drive,
          part_all node layout stage g at drive,
          stage_none layout g drive key stage off (mine tx (only key)),
        )

    -- it enters a stage with its transaction
    enters_at : (node : ℕ) (layout : Layout) (stage : Stage) (g : Gathered)
        → (is_way committing stage ≡ true → sent committing ≡ 0)
        → (is_way completing stage ≡ true → (sent completing ≡ 0) × (sent committing ≤ 1))
        → (is_way committing stage ≡ true → sent completing ≡ 0)
        → (is_way completing stage ≡ false → is_way committing stage ≡ false
        → (sent committing ≡ 0) × (sent completing ≡ 0))
        → Adds sent sent_now (stage_effects node layout stage g 0).sends
        → IsAt tx key layout stage (stage_left layout stage g 0) g sent_now
    enters_at node layout (Committing e n) g first second third none adds =
        let before = first refl in
        let other = other_way node layout (Committing e n) g 0 completing refl adds in
        let unsent = third refl in (
          goes_further node layout (Committing e n) g 0 committing (omega (arith, before)) adds,
          omega (arith, other, unsent),
        )
    enters_at node layout (Completing e n) g first second third none adds =
        let before = second refl in
        let other = other_way node layout (Completing e n) g 0 committing refl adds in
        let nothing = before.0 in
        let few = before.1 in (
          goes_further node layout (Completing e n) g 0 completing (omega (arith, nothing)) adds,
          omega (arith, other, few),
        )
    enters_at node layout (Aborting n) g first second third none adds =
        let before = none refl refl in
        let one = other_way node layout (Aborting n) g 0 committing refl adds in
        let other = other_way node layout (Aborting n) g 0 completing refl adds in
        let unsent = before.0 in
        let uncompleted = before.1 in
        (omega (arith, one, unsent), omega (arith, other, uncompleted))
    enters_at node layout Resting g first second third none adds = tt
    enters_at node layout (Gathering n) g first second third none adds = tt

    -- what is sent for another transaction
    other_none : (layout : Layout) (stage : Stage) (g : Gathered) → same_tx g.tx tx ≡ false → (drive : Drive)
        → counted tx key drive (stage_sends layout stage g) ≡ 0
    unfolding stage_sends
    other_none layout stage g off drive =
        omega (
          arith,
          count_both (λ (o : Outgoing). goes drive (mine tx (only key)) o.body) (front_sends g.tx stage)
              (flat_map (key_sends layout g.tx stage) g.keys),
          front_none layout g drive (mine tx (only key)) stage,
          all_off g.keys,
        )
      where
        none : (b c : Bool) → b ≡ false → one_if (b && c) ≡ 0
        none true c e = absurd (true≢false e)
        none false c e = refl

        all_off : (keys : List (List ℕ)) → counted tx key drive (flat_map (key_sends layout g.tx stage) keys) ≡ 0
        all_off [] = refl
        all_off (u ∷ keys) =
            omega (
              arith,
              count_both (λ (o : Outgoing). goes drive (mine tx (only key)) o.body) (key_sends layout g.tx stage u)
                  (flat_map (key_sends layout g.tx stage) keys),
              key_count layout g drive (mine tx (only key)) stage u,
              none (same_tx g.tx tx) (only key u) off,
              all_off keys,
            )

    others_add : (node : ℕ) (layout : Layout) (stage : Stage) (g : Gathered) (at : ℕ) → same_tx g.tx tx ≡ false
        → Adds sent sent_now (stage_effects node layout stage g at).sends → (drive : Drive)
        → sent_now drive ≤ sent drive
    others_add node layout stage g at off adds drive =
        omega (arith, adds drive, part_all node layout stage g at drive, other_none layout stage g off drive)

    -- the first of the transactions is ruled on
    module _ (s : TakeoverState) where
      over_none : (drive : Drive) → counted tx key drive (sends_only (told_over s.node)).sends ≡ 0
      over_none committing = refl
      over_none completing = refl

      way_works : (g : Gathered) → is_at_work (way_of s.layout g) ≡ true
      unfolding way_of
      way_works g = by g.epoch
        where
          by : (o : Option ℕ) → is_at_work (way_by s.layout g.keys o) ≡ true
          by (Some epoch) = refl
          by None = refl

      abbrev Comes : Option Gathered → Type 0
      Comes o = Adds sent sent_now (ruling_by s o).effects.sends → Rules tx key (ruling_by s o).state sent_now

      ruled_on : (gs : List Gathered) → s.gathered ≡ gs
          → (has_tx tx key gs ≡ true → (drive : Drive) → sent drive ≡ 0) → ((drive : Drive) → sent drive ≤ 1)
          → Comes (slice_get gs 0)
      unfolding entering
      ruled_on [] is none few adds =
          rests refl (λ drive. omega (arith, adds drive, over_none drive, few drive))
      ruled_on (g ∷ rest) is none few adds =
          works (way_works g) g rest is (record {
            own = λ own.
                let nothing = none (or_left (same_tx g.tx tx) (has_tx tx key rest) own) in
                enters_at s.node s.layout (way_of s.layout g) g (λ way. nothing committing)
                (λ way. (nothing completing, few committing)) (λ way. nothing completing)
                (λ one other. (nothing committing, nothing completing)) adds;
            later = λ off has drive.
                let nothing = none (or_right (same_tx g.tx tx) (has_tx tx key rest) has) drive in
                let less = others_add s.node s.layout (way_of s.layout g) g 0 off adds drive in
                omega (arith, nothing, less);
            gone = λ off drive.
                let less = others_add s.node s.layout (way_of s.layout g) g 0 off adds drive in
                omega (arith, few drive, less);
          })

      pub rules : (gs : List Gathered) → s.gathered ≡ gs
          → (has_tx tx key gs ≡ true → (drive : Drive) → sent drive ≡ 0) → ((drive : Drive) → sent drive ≤ 1)
          → Adds sent sent_now (ruling s).effects.sends → Rules tx key (ruling s).state sent_now
      unfolding ruling
      rules gs is none few adds =
          subst Comes (sym (ap (λ (gs : List Gathered). slice_get gs 0) is)) (ruled_on gs is none few) adds

-- how many are awaited doesn't matter
commits_alike : (layout : Layout) (e n m : ℕ) (g : Gathered)
    → stage_sends layout (Committing e n) g ≡ stage_sends layout (Committing e m) g
unfolding stage_sends key_sends front_sends
commits_alike layout e n m g = refl

completions_alike : (layout : Layout) (e n m : ℕ) (g : Gathered)
    → stage_sends layout (Completing e n) g ≡ stage_sends layout (Completing e m) g
unfolding stage_sends key_sends front_sends
completions_alike layout e n m g = refl

module _ (tx : TxId) (key : List ℕ) (s : TakeoverState) (sent sent_now : Drive → ℕ)
    (apart : Each (λ (g : Gathered). KeysApart g.keys) s.gathered) (alone : (g : Gathered) (rest : List Gathered)
    → s.gathered ≡ g ∷ rest → same_tx g.tx tx ≡ true → has_tx tx key rest ≡ false)
    (was : Rules tx key s sent)
  where
    abbrev Less : Type 0
    Less = (drive : Drive) → sent_now drive ≤ sent drive

    -- at work on one of these
    record IsWorking (stage : Stage) : Type 0 where
      g : Gathered
      rest : List Gathered
      is : s.gathered ≡ g ∷ rest
      own : Works tx key s.layout stage s.left g rest sent

    working : (stage : Stage) → s.stage ≡ stage → is_at_work stage ≡ true → IsWorking stage
    working stage at work = by was
      where
        by : Rules tx key s sent → IsWorking stage
        by (awaits off none) = absurd (true≢false (sym work ∙ (sym (ap is_at_work at) ∙ off)))
        by (works on g rest is own) =
            record {
              g = g;
              rest = rest;
              is = is;
              own = subst (λ st. Works tx key s.layout st s.left g rest sent) at own;
            }
        by (rests resting few) = absurd (true≢false (sym work ∙ (sym (ap is_at_work at) ∙ ap is_at_work resting)))

    -- it gathers
    gathering : (n : ℕ) → s.stage ≡ Gathering n → (drive : Drive) → sent drive ≡ 0
    gathering n at = by was
      where
        by : Rules tx key s sent → (drive : Drive) → sent drive ≡ 0
        by (awaits off none) drive = none drive
        by (works on g rest is own) drive = absurd (true≢false (sym on ∙ ap is_at_work at))
        by (rests resting few) drive = absurd (let both : Resting ≡ Gathering n = sym resting ∙ at in cc)

    sent_less : (left count count_now : ℕ) (drive : Drive) (one other : List Outgoing) → one ≡ other → count_now ≤ count
        → IsSentTo tx key left count drive one → IsSentTo tx key left count_now drive other
    sent_less left count count_now drive one other same less is = record {
      place = is.place;
      left_is = is.left_is;
      few =
          let own = is.few in
          let alike = ap (λ list. counted tx key drive (take is.place list)) same in
          omega (arith, own, alike, less);
    }

    -- a count falls
    less_commits : (e n m : ℕ) (g : Gathered) → Less → IsAt tx key s.layout (Committing e n) s.left g sent
        → IsAt tx key s.layout (Committing e m) s.left g sent_now
    less_commits e n m g less is =
        let nothing = is.1 in
        let none = less completing in (
          sent_less s.left (sent committing) (sent_now committing) committing (stage_sends s.layout (Committing e n) g)
              (stage_sends s.layout (Committing e m) g) (commits_alike s.layout e n m g) (less committing) is.0,
          omega (arith, nothing, none),
        )

    less_completes : (e n m : ℕ) (g : Gathered) → Less → IsAt tx key s.layout (Completing e n) s.left g sent
        → IsAt tx key s.layout (Completing e m) s.left g sent_now
    less_completes e n m g less is =
        let few = is.1 in
        let fewer = less committing in (
          sent_less s.left (sent completing) (sent_now completing) completing (stage_sends s.layout (Completing e n) g)
              (stage_sends s.layout (Completing e m) g) (completions_alike s.layout e n m g) (less completing) is.0,
          omega (arith, few, fewer),
        )

    less_aborts : (n m : ℕ) (g : Gathered) → Less → IsAt tx key s.layout (Aborting n) s.left g sent
        → IsAt tx key s.layout (Aborting m) s.left g sent_now
    less_aborts n m g less is =
        let one = is.0 in
        let other = is.1 in
        let none = less committing in
        let nothing = less completing in
        (omega (arith, one, none), omega (arith, other, nothing))

    less_at : (stage : Stage) (g : Gathered) → Less → IsAt tx key s.layout stage s.left g sent
        → IsAt tx key s.layout stage s.left g sent_now
    less_at (Committing e n) g less is = less_commits e n n g less is
    less_at (Completing e n) g less is = less_completes e n n g less is
    less_at (Aborting n) g less is = less_aborts n n g less is
    less_at Resting g less is = tt
    less_at (Gathering n) g less is = tt

    less_works : (stage now : Stage) (left : ℕ) (g : Gathered) (rest : List Gathered) → Less
        → (IsAt tx key s.layout stage s.left g sent → IsAt tx key s.layout now left g sent_now)
        → Works tx key s.layout stage s.left g rest sent → Works tx key s.layout now left g rest sent_now
    less_works stage now left g rest less at own = record {
      own = λ same. at (own.own same);
      later = λ off has drive.
          let nothing = own.later off has drive in let none = less drive in omega (arith, nothing, none);
      gone = λ off drive. let few = own.gone off drive in let fewer = less drive in omega (arith, few, fewer);
    }

    pub less_rules : Less → Rules tx key s sent_now
    less_rules less = by was
      where
        by : Rules tx key s sent → Rules tx key s sent_now
        by (awaits off none) =
            awaits off (λ drive. let nothing = none drive in let under = less drive in omega (arith, nothing, under))
        by (works on g rest is own) =
            works on g rest is (less_works s.stage s.stage s.left g rest less (less_at s.stage g less) own)
        by (rests resting few) =
            rests resting (λ drive. let own = few drive in let under = less drive in omega (arith, own, under))

    first_is : (g one : Gathered) (rest : List Gathered) → s.gathered ≡ g ∷ rest → slice_get s.gathered 0 ≡ Some one
        → g ≡ one
    first_is g one rest is there = let both : Some g ≡ Some one = sym (ap (λ gs. slice_get gs 0) is) ∙ there in cc

    -- the next is ruled on
    finishes : (stage : Stage) → s.stage ≡ stage → is_at_work stage ≡ true
        → Adds tx key sent sent_now (finishing s).effects.sends → Rules tx key (finishing s).state sent_now
    unfolding finishing
    finishes stage at work adds =
        let own = working stage at work in
        rules tx key sent sent_now (with_gathered s (remove s.gathered 0)) own.rest
        (ap (λ gs. remove gs 0) own.is) (none own (same_tx own.g.tx tx) refl)
        (works_once tx key s.layout stage s.left own.g own.rest sent work
        (subst (Each (λ (g : Gathered). KeysApart g.keys)) own.is apart).0 own.own) adds
      where
        none : (own : IsWorking stage) (b : Bool) → same_tx own.g.tx tx ≡ b → has_tx tx key own.rest ≡ true
            → (drive : Drive) → sent drive ≡ 0
        none own true same has drive = absurd (true≢false (sym has ∙ alone own.g own.rest own.is same))
        none own false off has drive = own.own.later off has drive

    -- all its keys are committed
    completes_all : (e n : ℕ) (one : Gathered) → s.stage ≡ Committing e n → slice_get s.gathered 0 ≡ Some one
        → Adds tx key sent sent_now (entering s one (Completing e (length one.keys))).effects.sends
        → Rules tx key (entering s one (Completing e (length one.keys))).state sent_now
    unfolding entering
    completes_all e n one at there adds =
        let own = working (Committing e n) at refl in
        let same = first_is own.g one own.rest own.is there in
        subst
        (λ g. Adds tx key sent sent_now (entering s g (Completing e (length g.keys))).effects.sends
        → Rules tx key (entering s g (Completing e (length g.keys))).state sent_now) same
        (λ adds.
        works refl own.g own.rest own.is (record {
          own = λ is.
              let before = own.own.own is in
              enters_at tx key sent sent_now s.node s.layout (Completing e (length own.g.keys)) own.g
              (λ way. absurd (true≢false (sym way)))
              (λ way. (
                before.1,
                works_once tx key s.layout (Committing e n) s.left own.g own.rest sent refl
                    (subst (Each (λ (g : Gathered). KeysApart g.keys)) own.is apart).0 own.own committing,
              ))
              (λ way. absurd (true≢false (sym way))) (λ off other. absurd (true≢false off)) adds;
          later = λ off has drive.
              let nothing = own.own.later off has drive in
              let under =
              others_add tx key sent sent_now s.node s.layout (Completing e (length own.g.keys)) own.g 0 off adds drive
              in
              omega (arith, nothing, under);
          gone = λ off drive.
              let few = own.own.gone off drive in
              let under =
              others_add tx key sent sent_now s.node s.layout (Completing e (length own.g.keys)) own.g 0 off adds drive
              in
              omega (arith, few, under);
        })) adds

    -- its list goes on from the place that is left
    further : (place : ℕ) (g : Gathered) (stage : Stage) → 0 < place → place ≡ s.left
        → IsAt tx key s.layout stage s.left g sent
        → Adds tx key sent sent_now (stage_effects s.node s.layout stage g place).sends
        → IsAt tx key s.layout stage (stage_left s.layout stage g place) g sent_now
    further place g stage some due is adds = by stage is adds
      where
        from_place : (drive : Drive) (list : List Outgoing) → IsSentTo tx key s.left (sent drive) drive list
            → sent drive ≤ counted tx key drive (take place list)
        from_place drive list to = at_place to.left_is
          where
            at_place : (s.left ≡ 0) ⊎ (s.left ≡ to.place) → sent drive ≤ counted tx key drive (take place list)
            at_place (inl none) = absurd (omega (arith, some, due, none))
            at_place (inr same) =
                let few = to.few in
                let alike = ap (λ n. counted tx key drive (take n list)) (due ∙ same) in
                omega (arith, few, alike)

        by : (stage : Stage) → IsAt tx key s.layout stage s.left g sent
            → Adds tx key sent sent_now (stage_effects s.node s.layout stage g place).sends
            → IsAt tx key s.layout stage (stage_left s.layout stage g place) g sent_now
        by (Committing e n) is adds =
            let nothing = is.1 in
            let other =
            other_way tx key sent sent_now s.node s.layout (Committing e n) g place completing refl adds in (
              goes_further tx key sent sent_now s.node s.layout (Committing e n) g place committing
                  (from_place committing (stage_sends s.layout (Committing e n) g) is.0) adds,
              omega (arith, nothing, other),
            )
        by (Completing e n) is adds =
            let few = is.1 in
            let other =
            other_way tx key sent sent_now s.node s.layout (Completing e n) g place committing refl adds in (
              goes_further tx key sent sent_now s.node s.layout (Completing e n) g place completing
                  (from_place completing (stage_sends s.layout (Completing e n) g) is.0) adds,
              omega (arith, few, other),
            )
        by (Aborting n) is adds =
            let one = is.0 in
            let two = is.1 in
            let first = other_way tx key sent sent_now s.node s.layout (Aborting n) g place committing refl adds in
            let second = other_way tx key sent sent_now s.node s.layout (Aborting n) g place completing refl adds in
            (omega (arith, one, first), omega (arith, two, second))
        by Resting is adds = tt
        by (Gathering n) is adds = tt

    goes_on_so : (place : ℕ) (one : Gathered) → is_left s place ≡ true → is_at_work s.stage ≡ true
        → slice_get s.gathered 0 ≡ Some one → Adds tx key sent sent_now (sending_on s one place).effects.sends
        → Rules tx key (sending_on s one place).state sent_now
    goes_on_so place one due work there adds =
        let own = working s.stage refl work in
        let same = first_is own.g one own.rest own.is there in
        let parts = and_parts (nat_lt 0 place) ((place == s.left) && nat_lt place SENDS) due in
        let left = and_parts (place == s.left) (nat_lt place SENDS) parts.1 in
        subst
        (λ g. Adds tx key sent sent_now (sending_on s g place).effects.sends
        → Rules tx key (sending_on s g place).state sent_now) same
        (λ adds.
        works work own.g own.rest own.is (record {
          own = λ is.
              further place own.g s.stage (ltb-true 0 place parts.0) (eqb-true place s.left left.0) (own.own.own is)
              adds;
          later = λ off has drive.
              let nothing = own.own.later off has drive in
              let under = others_add tx key sent sent_now s.node s.layout s.stage own.g place off adds drive in
              omega (arith, nothing, under);
          gone = λ off drive.
              let few = own.own.gone off drive in
              let under = others_add tx key sent sent_now s.node s.layout s.stage own.g place off adds drive in
              omega (arith, few, under);
        })) adds

    -- no key is driven by what it asks
    asks_none : (node : ℕ) (view : View) (at : ℕ) (drive : Drive)
        → counted tx key drive (ask_effects node view at).sends ≡ 0
    unfolding ask_effects asks_of
    asks_none node view at drive =
        omega (
          arith,
          count_both own (take PORTION (drop at asks))
              (rest_if (takeover node) work.Members at (nat_lt (at + PORTION) (length asks))),
          none_counted (goes drive (mine tx (only key))) (take PORTION (drop at asks))
              (each_take No PORTION (drop at asks) (each_drop No at asks
              (each_append No (map ask_of view.full) (map ask_of view.starting)
              (each_mapped No ask_of view.full (λ m. off drive m))
              (each_mapped No ask_of view.starting (λ m. off drive m))))),
          rest drive (nat_lt (at + PORTION) (length asks)),
        )
      where
        own : Outgoing → Bool
        own o = goes drive (mine tx (only key)) o.body

        No : Outgoing → Type 0
        No o = goes drive (mine tx (only key)) o.body ≡ false

        asks : List Outgoing
        asks = map ask_of view.full ++ map ask_of view.starting

        off : (d : Drive) (m : Member) → goes d (mine tx (only key)) (ask_of m).body ≡ false
        off committing m = refl
        off completing m = refl

        rest : (d : Drive) (b : Bool) → counted tx key d (rest_if (takeover node) work.Members at b) ≡ 0
        rest committing true = refl
        rest completing true = refl
        rest committing false = refl
        rest completing false = refl

    abbrev Does : Step TakeoverState → Type 0
    Does step = Adds tx key sent sent_now step.effects.sends → Rules tx key step.state sent_now

    nothing_less : Adds tx key sent sent_now [] → Less
    nothing_less adds drive =
        let own = adds drive in let none : counted tx key drive [] ≡ 0 = refl in omega (arith, own, none)

    gathers : (n : ℕ) → s.stage ≡ Gathering n → Less → (drive : Drive) → sent_now drive ≡ 0
    gathers n at less drive =
        let before = gathering n at drive in let under = less drive in omega (arith, before, under)

    pub takeover_drives : (x : Signal) → (x.body ≡ Takeover TakeoverOrd → (drive : Drive) → sent drive ≡ 0)
        → Adds tx key sent sent_now (takeover_row s x).effects.sends → Rules tx key (takeover_row s x).state sent_now
    takeover_drives x unsent =
        takeover_each s Does x.body (record {
          stays = λ off adds. less_rules (nothing_less adds);
          untold = λ one other state epoch is off adds. less_rules (nothing_less adds);
          unended = λ is off adds. less_rules (nothing_less adds);
          orders = λ is some adds.
              awaits refl
              (λ drive.
              let own = adds drive in
              let before = unsent is drive in
              omega (arith, own, before, asks_none s.node s.layout.view 0 drive));
          orders_nobody = λ is none adds.
              rules tx key sent sent_now (asking s (member_count s.layout.view) 0) [] refl (λ has. unsent is)
              (λ drive. let before = unsent is drive in omega (arith, before)) adds;
          asks = λ place n is due at adds.
              awaits (ap is_at_work at)
              (gathers n at
              (λ drive. let own = adds drive in omega (arith, own, asks_none s.node s.layout.view place drive)));
          tells = λ one other state epoch n is at adds. awaits (ap is_at_work at) (gathers n at (nothing_less adds));
          ends = λ n is at more adds. awaits refl (gathers n at (nothing_less adds));
          all_end = λ n is at last adds.
              rules tx key sent sent_now s s.gathered refl (λ has. gathering n at)
              (λ drive. let before = gathering n at drive in omega (arith, before)) adds;
          commits = λ one other g e n is first at more adds.
              let own = working (Committing e n) at refl in
              works refl own.g own.rest own.is
              (less_works (Committing e n) (Committing e (n - 1)) s.left own.g own.rest (nothing_less adds)
              (less_commits e n (n - 1) own.g (nothing_less adds)) own.own);
          all_commit = λ one other g e n is first at last adds.
              completes_all e n g at (first_found s.gathered one g first).there adds;
          completes = λ one other g e n is first at more adds.
              let own = working (Completing e n) at refl in
              works refl own.g own.rest own.is
              (less_works (Completing e n) (Completing e (n - 1)) s.left own.g own.rest (nothing_less adds)
              (less_completes e n (n - 1) own.g (nothing_less adds)) own.own);
          all_complete = λ one other g e n is first at last adds. finishes (Completing e n) at refl adds;
          aborts = λ one other g n is first at more adds.
              let own = working (Aborting n) at refl in
              works refl own.g own.rest own.is
              (less_works (Aborting n) (Aborting (n - 1)) s.left own.g own.rest (nothing_less adds)
              (less_aborts n (n - 1) own.g (nothing_less adds)) own.own);
          all_abort = λ one other g n is first at last adds.
              finishes (Aborting n) at refl
              (λ drive.
              let own = adds drive in
              omega (arith, own, told_more one (finishing s).effects.sends drive));
          goes_on = λ one place g is due work first adds.
              goes_on_so place g due work (first_found s.gathered one g first).there adds;
        })
      where
        told_more : (one : TxId) (sends : List Outgoing) (drive : Drive)
            → counted tx key drive (told_aborted one ∷ sends) ≡ counted tx key drive sends
        told_more one sends drive =
            omega (
              arith,
              count_more (λ (o : Outgoing). goes drive (mine tx (only key)) o.body) (told_aborted one) sends,
              none drive,
            )
          where
            none : (d : Drive) → one_if (goes d (mine tx (only key)) (told_aborted one).body) ≡ 0
            none committing = refl
            none completing = refl
