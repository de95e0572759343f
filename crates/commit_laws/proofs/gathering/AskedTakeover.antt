-- While a takeover gathers it has asked no more than the first ones of its list, and awaits an end of each member but
-- for those that were taken: each of its steps keeps this.
use Rattle.std.proofs.Common.{◌≡◌, ◌≤◌, ◌⊎◌, ◌+◌, ◌==◌, ◌&&◌, ◌∙◌, ℕ, true, false, List, [], inl, inr, nat_lt, refl}
use Rattle.std.proofs.Common.{sym, ap, arith, take}
use Rattle.std.proofs.lemmas.Bool.{and_parts, eqb-true, ltb-true, true≢false}
use Rattle.std.specs.Prelude.{◌-◌}
use Rattle.sig_core.specs.declared.outs.Outgoing.{Outgoing}
use Rattle.sig_core.specs.declared.portion.TheConstants.{PORTION}
use Rattle.sig_core.specs.declared.signal.Body.TheVariants.{Takeover}
use Rattle.sig_core.specs.declared.signal.Signal.{Signal}
use Rattle.sig_core.specs.declared.signal.takeover.TakeoverSignal.TheVariants.{LqhTransEnd, TakeoverOrd}
use Rattle.sig_core.specs.declared.view.View.{View}
use Rattle.sig_core.specs.Step.{Step}
use Rattle.takeover_block.specs.declared.sends.TheConstants.{SENDS}
use Rattle.takeover_block.specs.declared.stage.Stage.{Stage}
use Rattle.takeover_block.specs.declared.stage.Stage.TheVariants.{Aborting, Committing, Completing, Gathering, Resting}
use Rattle.takeover_block.specs.Gather.{asking, member_count}
use Rattle.takeover_block.specs.Rule.{is_at_work, is_left}
use Rattle.takeover_block.specs.Sends.{ask_effects, ask_left, asks_of}
use Rattle.takeover_block.specs.State.{TakeoverState}
use Rattle.takeover_block.specs.Takeover.{takeover_row}
use Rattle.takeover_block.proofs.EachTakeover.{is_gathering, takeover_each}
use Rattle.commit_laws.proofs.gathering.AskedLists.{Leaves, counted, enters_leaves, finishes_leave, left_so}
use Rattle.commit_laws.proofs.gathering.AskedLists.{none_counted, part_few, rules_leave, stage_asks_none}

module _ (node : ℕ) where
  -- of the first ones of the list as many were sent, and what is left begins behind these
  pub record IsAskedTo (view : View) (left sent : ℕ) : Type 0 where
    pub place : ℕ
    pub left_is : (left ≡ 0) ⊎ (left ≡ place)
    pub few : sent ≤ counted node (take place (asks_of view))

  -- it awaits so many ends
  pub record Gathers (s : TakeoverState) (sent ended awaited : ℕ) : Type 0 where
    pub asked : IsAskedTo s.layout.view s.left sent
    pub waits : member_count s.layout.view ≤ awaited + ended

  abbrev pub Stands : TakeoverState → ℕ → ℕ → Type 0
  Stands s sent ended = (n : ℕ) → s.stage ≡ Gathering n → Gathers s sent ended n

  -- of whoever doesn't gather nothing is said
  pub off_stands : (s : TakeoverState) (sent ended : ℕ) → is_gathering s.stage ≡ false → Stands s sent ended
  off_stands s sent ended off n at = absurd (true≢false (sym (ap is_gathering at) ∙ off))

  module _ (s : TakeoverState) (x : Signal) (sent sent_now ended ended_now : ℕ) (was : Stands s sent ended)
      (rises : ended ≤ ended_now) (ends_more : x.body ≡ Takeover LqhTransEnd → ended + 1 ≤ ended_now)
      (unsent : x.body ≡ Takeover TakeoverOrd → sent ≡ 0)
    where
      -- an event adds what is sent
      abbrev Adds : List Outgoing → Type 0
      Adds sends = sent_now ≤ sent + counted node sends

      pub record Does (step : Step TakeoverState) : Type 0 where
        pub stands : Adds step.effects.sends → Stands step.state sent_now ended_now
        pub quiet : is_gathering step.state.stage ≡ false → counted node step.effects.sends ≡ 0

      leaving : (step : Step TakeoverState) → Leaves step → Does step
      leaving step leaves = record {
        stands = λ adds. off_stands step.state sent_now ended_now leaves.off;
        quiet = λ off. none_counted node step.effects.sends leaves.silent;
      }

      -- what was asked, where nothing more is
      still : (n : ℕ) → s.stage ≡ Gathering n → Adds [] → IsAskedTo s.layout.view s.left sent_now
      still n at adds =
          let own = (was n at).asked in
          let few = own.few in
          let nothing : counted node [] ≡ 0 = refl in
          record { place = own.place; left_is = own.left_is; few = omega (arith, few, adds, nothing) }

      rests : (adds : Adds []) → Stands s sent_now ended_now
      rests adds n at =
          let waits = (was n at).waits in record { asked = still n at adds; waits = omega (arith, waits, rises) }

      -- and where another part of the list is
      further : (place : ℕ) → sent ≤ counted node (take place (asks_of s.layout.view))
          → Adds (ask_effects s.node s.layout.view place).sends
          → IsAskedTo s.layout.view (ask_left s.layout.view place) sent_now
      further place few adds = record {
        place = place + PORTION;
        left_is = left_so s.layout.view place;
        few = omega (arith, few, adds, part_few node s.node s.layout.view place);
      }

      ordered : x.body ≡ Takeover TakeoverOrd → Adds (ask_effects s.node s.layout.view 0).sends → (n : ℕ)
          → Gathering (member_count s.layout.view) ≡ Gathering n
          → Gathers (asking s (member_count s.layout.view) (ask_left s.layout.view 0)) sent_now ended_now n
      ordered is adds n at =
          let same : member_count s.layout.view ≡ n = cc in
          let none = unsent is in
          record { asked = further 0 (omega (arith, none)) adds; waits = omega (arith, same) }

      due_few : (place n : ℕ) → is_left s place ≡ true → s.stage ≡ Gathering n
          → sent ≤ counted node (take place (asks_of s.layout.view))
      due_few place n due at = by (was n at).asked.left_is
        where
          parts : (nat_lt 0 place ≡ true) × ((place == s.left && nat_lt place SENDS) ≡ true)
          parts = and_parts (nat_lt 0 place) (place == s.left && nat_lt place SENDS) due

          here : place ≡ s.left
          here = eqb-true place s.left (and_parts (place == s.left) (nat_lt place SENDS) parts.1).0

          some : 1 ≤ place
          some = let above = ltb-true 0 place parts.0 in omega (arith, above)

          by : (s.left ≡ 0) ⊎ (s.left ≡ (was n at).asked.place)
              → sent ≤ counted node (take place (asks_of s.layout.view))
          by (inl none) = absurd (omega (arith, some, here, none))
          by (inr is) =
              let few = (was n at).asked.few in
              let list = ap (λ k. counted node (take k (asks_of s.layout.view))) (here ∙ is) in
              omega (arith, few, list)

      asks_on : (place n : ℕ) → is_left s place ≡ true → s.stage ≡ Gathering n
          → Adds (ask_effects s.node s.layout.view place).sends → (m : ℕ) → s.stage ≡ Gathering m
          → Gathers (asking s m (ask_left s.layout.view place)) sent_now ended_now m
      asks_on place n due at adds m here =
          let waits = (was m here).waits in
          record { asked = further place (due_few place n due at) adds; waits = omega (arith, waits, rises) }

      ends_on : (n : ℕ) → x.body ≡ Takeover LqhTransEnd → s.stage ≡ Gathering n → nat_lt 1 n ≡ true → Adds []
          → (m : ℕ) → Gathering (n - 1) ≡ Gathering m → member_count s.layout.view ≤ m + ended_now
      ends_on n is at more adds m same =
          let left : n - 1 ≡ m = cc in
          let waits = (was n at).waits in
          let above = ltb-true 1 n more in
          let one = ends_more is in
          omega (arith, left, waits, above, one)

      off_work : (stage : Stage) → is_at_work stage ≡ true → is_gathering stage ≡ false
      off_work Resting work = refl
      off_work (Gathering n) work = absurd (true≢false (sym work))
      off_work (Committing e n) work = refl
      off_work (Completing e n) work = refl
      off_work (Aborting n) work = refl

      does_each : Does (takeover_row s x)
      does_each =
          takeover_each s Does x.body (record {
            stays = λ off. record { stands = rests; quiet = λ off. refl };
            untold = λ tx key state epoch is off. record { stands = rests; quiet = λ off. refl };
            unended = λ is off. record { stands = rests; quiet = λ off. refl };
            orders = λ is some. record {
              stands = λ adds n at. let own = ordered is adds n at in record { asked = own.asked; waits = own.waits };
              quiet = λ off. absurd (true≢false off);
            };
            orders_nobody = λ is none. leaving _ (rules_leave _);
            asks = λ place n is due at. record {
              stands = λ adds m here.
                  let own = asks_on place n due at adds m here in record { asked = own.asked; waits = own.waits };
              quiet = λ off. absurd (true≢false (sym (ap is_gathering at) ∙ off));
            };
            tells = λ tx key state epoch n is at. record {
              stands = λ adds m here. let own = rests adds m here in record { asked = own.asked; waits = own.waits };
              quiet = λ off. refl;
            };
            ends = λ n is at more. record {
              stands = λ adds m same. record { asked = still n at adds; waits = ends_on n is at more adds m same };
              quiet = λ off. refl;
            };
            all_end = λ n is at last. leaving _ (rules_leave s);
            commits = λ tx key g e n is first at more. leaving _ (record { silent = tt; off = refl });
            all_commit = λ tx key g e n is first at last. leaving _ (enters_leaves s g _ refl);
            completes = λ tx key g e n is first at more. leaving _ (record { silent = tt; off = refl });
            all_complete = λ tx key g e n is first at last. leaving _ (finishes_leave s);
            aborts = λ tx key g n is first at more. leaving _ (record { silent = tt; off = refl });
            all_abort = λ tx key g n is first at last.
                leaving _ (let own = finishes_leave s in record { silent = (refl, own.silent); off = own.off });
            goes_on = λ tx place g is due work first.
                leaving _ (record {
                  silent = stage_asks_none s.node s.layout s.stage g place;
                  off = off_work s.stage work;
                });
          })

      -- so the step keeps it, and asks only where it gathers behind
      pub takes_stand : Adds (takeover_row s x).effects.sends → Stands (takeover_row s x).state sent_now ended_now
      takes_stand = does_each.stands

      pub takes_quiet : is_gathering (takeover_row s x).state.stage ≡ false
          → counted node (takeover_row s x).effects.sends ≡ 0
      takes_quiet = does_each.quiet
