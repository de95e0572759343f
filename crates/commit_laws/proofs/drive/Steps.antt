-- Each turn of a coordinator's transaction leads on with its commits as it should, and so does what an installation
-- left to do.
use Rattle.std.proofs.Common.{◌≡◌, ◌≤◌, ◌+◌, ◌==◌, ◌&&◌, ◌∙◌, ℕ, suc, Bool, true, false, List, [], ◌∷◌, length, map}
use Rattle.std.proofs.Common.{nat_lt, refl, sym, ap, arith, subst}
use Rattle.std.proofs.lemmas.Bool.{eq-eqb, ltb-false, ltb-true, true≢false}
use Rattle.std.specs.Prelude.{◌-◌, if◌then◌else◌, Option, None, Some}
use Rattle.sig_core.specs.declared.member.TxId.{TxId}
use Rattle.sig_core.specs.declared.outs.Outgoing.{Outgoing}
use Rattle.sig_core.specs.declared.portion.TheConstants.{PORTION}
use Rattle.sig_core.specs.declared.signal.Body.{Body}
use Rattle.sig_core.specs.declared.signal.Body.TheVariants.{Chain, Host}
use Rattle.sig_core.specs.declared.signal.chain.ChainSignal.TheVariants.{Committed, Completed}
use Rattle.sig_core.specs.declared.signal.host.HostSignal.TheVariants.{Continue}
use Rattle.sig_core.specs.declared.signal.host.Work.TheVariants as work
use Rattle.sig_core.specs.Same.{same_tx}
use Rattle.sig_core.specs.Step.{stay}
use Rattle.sig_core.proofs.Keys.{same_tx-self}
use Rattle.frag_map.specs.Layout.{Layout}
use Rattle.tc_block.specs.declared.phase.Phase.{Phase}
use Rattle.tc_block.specs.declared.phase.Phase.TheVariants.{Aborting, Committing, Completing, Open, Verifying}
use Rattle.tc_block.specs.declared.touched.Touched.{Touched}
use Rattle.tc_block.specs.declared.transaction.Transaction.{Transaction}
use Rattle.tc_block.specs.Complete.{one_if, written_count}
use Rattle.tc_block.specs.Part.{part_effects}
use Rattle.tc_block.specs.Phases.{is_aborting, is_decided}
use Rattle.tc_block.specs.Resume.{rechained, redriven}
use Rattle.tc_block.specs.Sends.{entering, go_on_if, phase_sends}
use Rattle.tc_block.specs.Turn.{Turn, at_phase, going}
use Rattle.run_laws.specs.Keyed.{AreApart}
use Rattle.outcome_laws.specs.Counts.{count_sent}
use Rattle.request_laws.proofs.phases.Steps.{left_of}
use Rattle.commit_laws.proofs.drive.Kinds.{Drive, comes, committing, completing, goes}
use Rattle.commit_laws.proofs.drive.Lists.{any, commits_length, commits_of, commits_plain, commits_same, completions_of}
use Rattle.commit_laws.proofs.drive.Lists.{completions_plain, completions_same, mine, only, onward, part_onward}
use Rattle.commit_laws.proofs.drive.Lists.{taken_few, taken_less}
use Rattle.commit_laws.proofs.drive.States.{AreOnce, Counts, Drives, DrivesLeft, Knows, Moves, Sending, Untouched}
use Rattle.commit_laws.proofs.drive.States.{begins_sending, commits, completes, drives_once, given_up, goes_on_sending}
use Rattle.commit_laws.proofs.drive.States.{is_counted, still_drives, still_none, still_once, still_sending}
use Rattle.commit_laws.proofs.drive.States.{still_untouched, undecided, waits}
use Rattle.commit_laws.proofs.drive.Turns.{aborting_part, DriveNoKey, DriveNone, DriveTurn, Redrives, begins, counts}
use Rattle.commit_laws.proofs.drive.Turns.{counts_last, counts_on, ends, goes_on, loosens, rests}

-- one of two numbers is as the other
own_one : (tx : TxId) (b : Bool) → (same_tx tx tx && b) ≡ b
own_one tx b = ap (λ c. c && b) (same_tx-self tx)

module _ (node : ℕ) (layout : Layout) (tx : TxId) (sent taken sent_now taken_now : Counts) (t : Transaction)
    (body : Body)
    (turn : Turn) (listed listed_now : ℕ)
    (moves : Moves tx layout sent taken sent_now taken_now turn.step.effects.sends)
    (knows : Knows tx layout sent taken taken_now body) (apart : AreApart t.touched) (less : listed_now ≤ listed)
  where
    abbrev sends : List Outgoing
    sends = turn.step.effects.sends

    abbrev Was : Type 0
    Was = Drives tx layout sent taken t listed

    abbrev Is : Option Transaction → Type 0
    Is o = DrivesLeft tx layout sent_now taken_now o listed_now

    -- it goes on, or is forgotten
    on : turn.over ≡ false → Drives tx layout sent_now taken_now turn.step.state listed_now → Is (left_of turn)
    on over now = subst Is (sym (ap (λ b. if b then None else Some turn.step.state) over)) now

    off : turn.over ≡ true → AreOnce tx layout sent_now → Is (left_of turn)
    off over once = subst Is (sym (ap (λ b. if b then None else Some turn.step.state) over)) once

    -- in its phase
    not_decided : (phase : Phase) → t.phase ≡ phase → is_decided phase ≡ false → is_decided t.phase ≡ true → ⊥
    not_decided phase at undone done = true≢false (sym done ∙ (ap is_decided at ∙ undone))

    not_undecided : (phase : Phase) → t.phase ≡ phase → is_decided phase ≡ true → is_decided t.phase ≡ false → ⊥
    not_undecided phase at done undone = true≢false (sym done ∙ (sym (ap is_decided at) ∙ undone))

    not_aborting : (phase : Phase) → t.phase ≡ phase → is_aborting phase ≡ false → is_aborting t.phase ≡ true → ⊥
    not_aborting phase at unaborted aborted = true≢false (sym aborted ∙ (ap is_aborting at ∙ unaborted))

    -- a key was told of, so it had been sent
    told_some : (drive : Drive) (key : List ℕ) → is_counted tx layout body ≡ true
        → comes drive (mine tx any) body ≡ true → 1 ≤ sent (goes drive (mine tx any))
    told_some drive key counted is =
        omega (arith, knows.takes_one counted (comes drive (mine tx any)) is, knows.comes_back drive)

    untold : (drive : Drive) → Untouched tx sent → 1 ≤ sent (goes drive (mine tx any)) → ⊥
    untold drive un some = absurd (omega (arith, some, un.keys drive any))

    loosened : is_decided t.phase ≡ false → (turn.over ≡ false → is_decided turn.step.state.phase ≡ false)
        → (is_aborting t.phase ≡ true → turn.over ≡ false → is_aborting turn.step.state.phase ≡ true)
        → DriveNoKey sends
        → (turn.over ≡ false → is_aborting turn.step.state.phase ≡ false → DriveNone sends)
        → Was → Is (left_of turn)
    loosened undone behind aborts no_key none was = by turn.over refl was
      where
        nothing : Was → (drive : Drive) (wk : List ℕ → Bool) → sent (goes drive (mine tx wk)) ≡ 0
        nothing (undecided undone_yet other zero un) = un.keys
        nothing (given_up is no_keys_sent) = no_keys_sent
        nothing (waits is few un) = un.keys
        nothing (commits epoch awaited place at zero sending enough) =
            absurd (not_undecided (Committing epoch awaited) at refl undone)
        nothing (completes epoch awaited place at zero sending enough) =
            absurd (not_undecided (Completing epoch awaited) at refl undone)

        now_none : Was → (drive : Drive) (wk : List ℕ → Bool) → sent_now (goes drive (mine tx wk)) ≡ 0
        now_none was = still_none tx layout sent taken sent_now taken_now sends moves no_key (nothing was)

        untouched : Was → is_aborting t.phase ≡ false → Untouched tx sent × (listed ≡ 0)
        untouched (undecided undone_yet other zero un) unaborted = (un, zero)
        untouched (given_up is no_keys_sent) unaborted = absurd (true≢false (sym is ∙ unaborted))
        untouched (waits is few un) unaborted = absurd (true≢false (sym is ∙ undone))
        untouched (commits epoch awaited place at zero sending enough) unaborted =
            absurd (not_undecided (Committing epoch awaited) at refl undone)
        untouched (completes epoch awaited place at zero sending enough) unaborted =
            absurd (not_undecided (Completing epoch awaited) at refl undone)

        stays : turn.over ≡ false → Was → (b c : Bool) → is_aborting turn.step.state.phase ≡ b → is_aborting t.phase ≡ c
            → Drives tx layout sent_now taken_now turn.step.state listed_now
        stays over was true c is before = given_up is (now_none was)
        stays over was false true is before = absurd (true≢false (sym (aborts before over) ∙ is))
        stays over was false false is before =
            let own = untouched was before in
            undecided (behind over) is (omega (arith, own.1, less))
            (still_untouched tx layout sent taken sent_now taken_now sends moves (none over is) own.0)

        by : (b : Bool) → turn.over ≡ b → Was → Is (left_of turn)
        by true over was = off over (λ drive key. let nil = now_none was drive (only key) in omega (arith, nil))
        by false over was =
            on over (stays over was (is_aborting turn.step.state.phase) (is_aborting t.phase) refl refl)

    -- its keys begin to be committed
    began : (epoch : ℕ) → t.phase ≡ Verifying
        → turn ≡ going (entering node layout tx t (Committing epoch (length t.touched))) → Was → Is (left_of turn)
    unfolding entering
    began epoch at is was = subst (λ u. Is (left_of u)) (sym is) (by was)
      where
        list : List Outgoing
        list = commits_of layout tx epoch (length t.touched) t.touched

        by : Was → Drives tx layout sent_now taken_now (at_phase t (Committing epoch (length t.touched))) listed_now
        by (undecided undone_yet other zero un) =
            commits epoch (length t.touched) (0 + PORTION) refl (omega (arith, zero, less))
            (begins_sending tx layout sent taken sent_now taken_now sends moves node [] list
            (ap (λ (u : Turn). u.step.effects.sends) is)
            (λ drive wk. omega (arith, un.keys drive wk)) (λ x. omega (arith, un.goes_on x))
            (λ x. part_onward node tx list 0 x (commits_plain layout tx x epoch (length t.touched) t.touched)))
            (omega arith)
        by (given_up is_back nothing) = absurd (not_aborting Verifying at refl is_back)
        by (waits done few un) = absurd (not_decided Verifying at refl done)
        by (commits other awaited place is_at zero sending enough) =
            absurd (not_undecided (Committing other awaited) is_at refl (ap is_decided at))
        by (completes other awaited place is_at zero sending enough) =
            absurd (not_undecided (Completing other awaited) is_at refl (ap is_decided at))

    -- a key was committed, and not the last one
    counted : (key : List ℕ) (epoch awaited : ℕ) → body ≡ Chain (Committed tx key) → t.phase ≡ Committing epoch awaited
        → nat_lt 1 awaited ≡ true → turn ≡ going (stay (at_phase t (Committing epoch (awaited - 1)))) → Was
        → Is (left_of turn)
    counted key epoch awaited told at more is was = subst (λ u. Is (left_of u)) (sym is) (by was)
      where
        none : DriveNone sends
        none = subst (λ (u : Turn). DriveNone u.step.effects.sends) (sym is) tt

        is_one : is_counted tx layout body ≡ true
        is_one = ap (is_counted tx layout) told

        own : comes committing (mine tx any) body ≡ true
        own = ap (comes committing (mine tx any)) told ∙ own_one tx true

        by : Was → Drives tx layout sent_now taken_now (at_phase t (Committing epoch (awaited - 1))) listed_now
        by (undecided undone other zero un) = absurd (not_undecided (Committing epoch awaited) at refl undone)
        by (given_up is_back nothing) = absurd (not_aborting (Committing epoch awaited) at refl is_back)
        by (waits done few un) = absurd (untold committing un (told_some committing key is_one own))
        by (commits before left place is_at zero sending enough) =
            let same : left ≡ awaited = awaited_is (sym is_at ∙ at) in
            commits epoch (awaited - 1) place refl (omega (arith, zero, less))
            (subst (λ list. Sending tx sent_now taken_now [] list place)
            (epoch_is (sym is_at ∙ at) ∙ commits_same layout tx epoch left (awaited - 1) t.touched)
            (still_sending tx layout sent taken sent_now taken_now sends moves none []
            (commits_of layout tx before left t.touched) place sending))
            (let two = ltb-true 1 awaited more in
            omega (arith, enough, same, two, knows.takes_one is_one (comes committing (mine tx any)) own))
          where
            awaited_is : Committing before left ≡ Committing epoch awaited → left ≡ awaited
            awaited_is e = cc

            epoch_is : Committing before left ≡ Committing epoch awaited
                → commits_of layout tx before left t.touched ≡ commits_of layout tx epoch left t.touched
            epoch_is e = let same : before ≡ epoch = cc in ap (λ n. commits_of layout tx n left t.touched) same
        by (completes before left place is_at zero sending enough) =
            absurd (let both : Completing before left ≡ Committing epoch awaited = sym is_at ∙ at in cc)

    -- the last one was, so all commits were sent
    counted_last : (key : List ℕ) (epoch awaited : ℕ) → body ≡ Chain (Committed tx key)
        → t.phase ≡ Committing epoch awaited → nat_lt 1 awaited ≡ false
        → turn ≡ going (entering node layout tx t (Completing epoch (written_count t.touched))) → Was
        → Is (left_of turn)
    unfolding entering
    counted_last key epoch awaited told at last is was = subst (λ u. Is (left_of u)) (sym is) (by was)
      where
        is_one : is_counted tx layout body ≡ true
        is_one = ap (is_counted tx layout) told

        own : comes committing (mine tx any) body ≡ true
        own = ap (comes committing (mine tx any)) told ∙ own_one tx true

        count : ℕ
        count = written_count t.touched

        list : List Outgoing
        list = completions_of layout tx epoch count t.touched

        by : Was → Drives tx layout sent_now taken_now (at_phase t (Completing epoch count)) listed_now
        by (undecided undone other zero un) = absurd (not_undecided (Committing epoch awaited) at refl undone)
        by (given_up is_back nothing) = absurd (not_aborting (Committing epoch awaited) at refl is_back)
        by (waits done few un) = absurd (untold committing un (told_some committing key is_one own))
        by (commits before left place is_at zero sending enough) =
            completes epoch count (0 + PORTION) refl (omega (arith, zero, less))
            (begins_sending tx layout sent taken sent_now taken_now sends moves node
            (commits_of layout tx epoch count t.touched) list (ap (λ (u : Turn). u.step.effects.sends) is)
            (λ drive wk.
            omega (
              arith,
              sending.keys drive wk,
              none drive wk,
              taken_less (λ (o : Outgoing). goes drive (mine tx wk) o.body) place
                  (commits_of layout tx before left t.touched),
              same_count drive wk,
            ))
            (λ x. omega (
              arith,
              sending.goes_on x,
              nothing_left x
                  (nat_lt place (length (commits_of layout tx before left t.touched))) refl,
            ))
            (λ x. part_onward node tx list 0 x (completions_plain layout tx x epoch count t.touched)))
            all_told
          where
            awaited_is : Committing before left ≡ Committing epoch awaited → left ≡ awaited
            awaited_is e = cc

            same : left ≡ awaited
            same = awaited_is (sym is_at ∙ at)

            all_told : length t.touched ≤ taken_now (comes committing (mine tx any))
            all_told =
                let few = ltb-false 1 awaited last in
                omega (arith, enough, same, few, knows.takes_one is_one (comes committing (mine tx any)) own)

            epoch_is : Committing before left ≡ Committing epoch awaited → before ≡ epoch
            epoch_is e = cc

            none : (drive : Drive) (wk : List ℕ → Bool) → count_sent (goes drive (mine tx wk)) [] ≡ 0
            none drive wk = refl

            same_count : (drive : Drive) (wk : List ℕ → Bool)
                → count_sent (goes drive (mine tx wk)) (commits_of layout tx before left t.touched)
                ≡ count_sent (goes drive (mine tx wk)) (commits_of layout tx epoch count t.touched)
            same_count drive wk =
                ap (count_sent (goes drive (mine tx wk)))
                (ap (λ n. commits_of layout tx n left t.touched) (epoch_is (sym is_at ∙ at))
                ∙ commits_same layout tx epoch left count t.touched)

            all_sent : length t.touched ≤ place
            all_sent =
                let few = ltb-false 1 awaited last in
                omega (
                  arith,
                  enough,
                  same,
                  few,
                  knows.takes_one is_one (comes committing (mine tx any)) own,
                  knows.comes_back committing,
                  sending.keys committing any,
                  none committing any,
                  taken_few (λ (o : Outgoing). goes committing (mine tx any) o.body) place
                      (commits_of layout tx before left t.touched),
                )

            nothing_left : (x : ℕ) (b : Bool)
                → nat_lt place (length (commits_of layout tx before left t.touched)) ≡ b
                → one_if (b && (place == x)) ≡ 0
            nothing_left x false e = refl
            nothing_left x true e =
                absurd
                (omega (
                  arith,
                  all_sent,
                  ltb-true place (length (commits_of layout tx before left t.touched)) e,
                  commits_length layout tx before left t.touched,
                ))
        by (completes before left place is_at zero sending enough) =
            absurd (let both : Completing before left ≡ Committing epoch awaited = sym is_at ∙ at in cc)

    -- a key was completed
    counted_on : (key : List ℕ) (epoch awaited : ℕ) → body ≡ Chain (Completed tx key)
        → t.phase ≡ Completing epoch awaited → turn ≡ going (stay (at_phase t (Completing epoch (awaited - 1)))) → Was
        → Is (left_of turn)
    counted_on key epoch awaited told at is was = subst (λ u. Is (left_of u)) (sym is) (by was)
      where
        none : DriveNone sends
        none = subst (λ (u : Turn). DriveNone u.step.effects.sends) (sym is) tt

        is_one : is_counted tx layout body ≡ true
        is_one = ap (is_counted tx layout) told

        own : comes completing (mine tx any) body ≡ true
        own = ap (comes completing (mine tx any)) told ∙ own_one tx true

        by : Was → Drives tx layout sent_now taken_now (at_phase t (Completing epoch (awaited - 1))) listed_now
        by (undecided undone other zero un) = absurd (not_undecided (Completing epoch awaited) at refl undone)
        by (given_up is_back nothing) = absurd (not_aborting (Completing epoch awaited) at refl is_back)
        by (waits done few un) = absurd (untold completing un (told_some completing key is_one own))
        by (commits before left place is_at zero sending enough) =
            absurd (let both : Committing before left ≡ Completing epoch awaited = sym is_at ∙ at in cc)
        by (completes before left place is_at zero sending enough) =
            completes epoch (awaited - 1) place refl (omega (arith, zero, less))
            (subst
            (λ front. Sending tx sent_now taken_now front (completions_of layout tx epoch (awaited - 1) t.touched)
            place)
            front_same
            (subst (λ list. Sending tx sent_now taken_now (commits_of layout tx before left t.touched) list place)
            list_same
            (still_sending tx layout sent taken sent_now taken_now sends moves none
            (commits_of layout tx before left t.touched) (completions_of layout tx before left t.touched) place
            sending)))
            (omega (arith, enough, moves.takes_more (comes committing (mine tx any))))
          where
            epoch_is : Completing before left ≡ Completing epoch awaited → before ≡ epoch
            epoch_is e = cc

            front_same : commits_of layout tx before left t.touched ≡ commits_of layout tx epoch (awaited - 1) t.touched
            front_same =
                ap (λ n. commits_of layout tx n left t.touched) (epoch_is (sym is_at ∙ at))
                ∙ commits_same layout tx epoch left (awaited - 1) t.touched

            list_same : completions_of layout tx before left t.touched
                ≡ completions_of layout tx epoch (awaited - 1) t.touched
            list_same =
                ap (λ n. completions_of layout tx n left t.touched) (epoch_is (sym is_at ∙ at))
                ∙ completions_same layout tx epoch left (awaited - 1) t.touched

    -- it goes on with its list
    went_on : (at : ℕ) → body ≡ Host (Continue (work.Transaction tx) at)
        → turn ≡ going (go_on_if node layout tx t at true) → Was → Is (left_of turn)
    went_on at told is was = subst (λ u. Is (left_of u)) (sym is) (by was)
      where
        is_one : is_counted tx layout body ≡ true
        is_one = ap (is_counted tx layout) told

        own : onward tx at body ≡ true
        own = ap (onward tx at) told ∙ (own_one tx (at == at) ∙ eq-eqb at at refl)

        one : taken (onward tx at) + 1 ≤ taken_now (onward tx at)
        one = knows.takes_one is_one (onward tx at) own

        -- nothing was sent to go on with
        never : Untouched tx sent → ⊥
        never un = absurd (omega (arith, one, knows.goes_on at, un.goes_on at))

        sends_are : (phase : Phase) → t.phase ≡ phase
            → sends ≡ (part_effects node tx (phase_sends layout tx phase t.touched) at).sends
        sends_are phase is_at =
            ap (λ (u : Turn). u.step.effects.sends) is
            ∙ ap (λ p. (part_effects node tx (phase_sends layout tx p t.touched) at).sends) is_at

        by : Was → Drives tx layout sent_now taken_now t listed_now
        by (undecided undone other zero un) = absurd (never un)
        by (given_up is_back nothing) =
            given_up is_back
            (still_none tx layout sent taken sent_now taken_now sends moves (aborting_no_key t.phase refl is_back)
            nothing)
          where
            aborting_no_key : (phase : Phase) → t.phase ≡ phase → is_aborting t.phase ≡ true → DriveNoKey sends
            aborting_no_key (Aborting why verifying awaited) is_at back =
                subst DriveNoKey (sym (sends_are (Aborting why verifying awaited) is_at))
                (aborting_part node layout tx why verifying awaited t.touched at)
            aborting_no_key Open is_at back = absurd (true≢false (sym back ∙ ap is_aborting is_at))
            aborting_no_key Verifying is_at back = absurd (true≢false (sym back ∙ ap is_aborting is_at))
            aborting_no_key (Committing epoch awaited) is_at back =
                absurd (true≢false (sym back ∙ ap is_aborting is_at))
            aborting_no_key (Completing epoch awaited) is_at back =
                absurd (true≢false (sym back ∙ ap is_aborting is_at))
        by (waits done few un) = absurd (never un)
        by (commits epoch awaited place is_at zero sending enough) =
            commits epoch awaited (at + PORTION) is_at (omega (arith, zero, less))
            (goes_on_sending tx layout sent taken sent_now taken_now sends moves node []
            (commits_of layout tx epoch awaited t.touched) place at (sends_are (Committing epoch awaited) is_at)
            (λ x. part_onward node tx (commits_of layout tx epoch awaited t.touched) at x
            (commits_plain layout tx x epoch awaited t.touched))
            one (knows.goes_on at) sending)
            (omega (arith, enough, moves.takes_more (comes committing (mine tx any))))
        by (completes epoch awaited place is_at zero sending enough) =
            completes epoch awaited (at + PORTION) is_at (omega (arith, zero, less))
            (goes_on_sending tx layout sent taken sent_now taken_now sends moves node
            (commits_of layout tx epoch awaited t.touched) (completions_of layout tx epoch awaited t.touched) place at
            (sends_are (Completing epoch awaited) is_at)
            (λ x. part_onward node tx (completions_of layout tx epoch awaited t.touched) at x
            (completions_plain layout tx x epoch awaited t.touched))
            one (knows.goes_on at) sending)
            (omega (arith, enough, moves.takes_more (comes committing (mine tx any))))

    -- whatever turn it takes
    pub turn_drives : DriveTurn node layout tx t body turn → Was → Is (left_of turn)
    turn_drives (rests over phase touched none) was =
        on over
        (still_drives tx layout sent taken sent_now taken_now sends moves none t turn.step.state listed listed_now phase
        touched less was)
    turn_drives (loosens undone behind aborts no_key none) was = loosened undone behind aborts no_key none was
    turn_drives (begins epoch told at is) was = began epoch at is was
    turn_drives (counts key epoch awaited told at more is) was = counted key epoch awaited told at more is was
    turn_drives (counts_last key epoch awaited told at last is) was = counted_last key epoch awaited told at last is was
    turn_drives (counts_on key epoch awaited told at is) was = counted_on key epoch awaited told at is was
    turn_drives (goes_on at told is) was = went_on at told is was
    turn_drives (ends over none unwritten) was =
        off over
        (still_once tx layout sent taken sent_now taken_now sends moves none
        (drives_once tx layout sent taken t listed apart was))

    -- where it was listed to be driven once more, it is so, and isn't listed again
    pub redrive_drives : Redrives node layout tx t turn → 1 ≤ listed → listed_now + 1 ≤ listed → Was → Is (left_of turn)
    unfolding entering
    redrive_drives again some fewer was = subst (λ u. Is (left_of u)) (sym again.is) (by was)
      where
        touched : List Touched
        touched = map (rechained layout) t.touched

        length_same : (ts : List Touched) → length (map (rechained layout) ts) ≡ length ts
        length_same [] = refl
        length_same (x ∷ ts) = ap suc (length_same ts)

        list : List Outgoing
        list = commits_of layout tx again.epoch (length t.touched) touched

        by : Was
            → Drives tx layout sent_now taken_now (redriven node layout tx t again.epoch).state listed_now
        by (undecided undone other zero un) = absurd (omega (arith, zero, some))
        by (given_up is_back nothing) = absurd (both t.phase is_back again.decided)
          where
            both : (phase : Phase) → is_aborting phase ≡ true → is_decided phase ≡ true → ⊥
            both (Aborting why verifying awaited) back done = true≢false (sym done)
            both Open back done = true≢false (sym done)
            both Verifying back done = true≢false (sym done)
            both (Committing epoch awaited) back done = true≢false (sym back)
            both (Completing epoch awaited) back done = true≢false (sym back)
        by (waits done few un) =
            commits again.epoch (length t.touched) (0 + PORTION) refl (omega (arith, few, fewer))
            (begins_sending tx layout sent taken sent_now taken_now sends moves node [] list
            (ap (λ (u : Turn). u.step.effects.sends) again.is)
            (λ drive wk. omega (arith, un.keys drive wk)) (λ x. omega (arith, un.goes_on x))
            (λ x. part_onward node tx list 0 x (commits_plain layout tx x again.epoch (length t.touched) touched)))
            (omega (arith, length_same t.touched))
        by (commits epoch awaited place at zero sending enough) = absurd (omega (arith, zero, some))
        by (completes epoch awaited place at zero sending enough) = absurd (omega (arith, zero, some))
