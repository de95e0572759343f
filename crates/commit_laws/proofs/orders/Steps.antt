-- At an event of a membership's host it sends as many orders, and signals to go on to them, as it takes of these, and
-- one more where it comes to a greater view.
use Rattle.std.proofs.Common.{◌≡◌, ◌≤◌, ◌<◌, ◌+◌, ◌++◌, ◌⊎◌, ◌∙◌, ℕ, true, false, ◌&&◌, ◌||◌, ◌==◌, Bool, List, [], ◌∷◌}
use Rattle.std.proofs.Common.{inl, inr, length, nat_lt, refl, sym, ap, subst, arith}
use Rattle.std.proofs.lemmas.Bool.Decides.{nat_tests}
use Rattle.std.proofs.lemmas.Bool.{true≢false}
use Rattle.std.specs.Prelude.{if◌then◌else◌, not, Some}
use Rattle.run_theory.specs.Lists.{IsIn}
use Rattle.frag_map.specs.Layout.{Layout, first_layout}
use Rattle.sig_core.specs.declared.member.Member.{Member}
use Rattle.sig_core.specs.declared.outs.Outgoing.{Outgoing}
use Rattle.sig_core.specs.declared.place.BlockId.{BlockId}
use Rattle.sig_core.specs.declared.place.Part.TheVariants as host_part
use Rattle.sig_core.specs.declared.signal.Body.{Body}
use Rattle.sig_core.specs.declared.signal.Body.TheVariants.{Host}
use Rattle.sig_core.specs.declared.signal.host.HostSignal.TheVariants.{Continue}
use Rattle.sig_core.specs.declared.signal.host.Work.TheVariants.{Members}
use Rattle.sig_core.specs.declared.signal.Signal.{Signal}
use Rattle.sig_core.specs.declared.view.View.{View}
use Rattle.tc_block.specs.Complete.{one_if}
use Rattle.qmgr_block.specs.declared.known.Known.{Known}
use Rattle.qmgr_block.specs.Install.{installing, is_oldest, is_oldest_of}
use Rattle.qmgr_block.specs.Sets.{members_of}
use Rattle.qmgr_block.specs.State.{QmgrState}
use Rattle.node_views.specs.Blocks.{parts_entered, parts_row, settled_at}
use Rattle.node_views.specs.declared.main_part.MainPart.{MainPart}
use Rattle.node_views.specs.declared.parts.Parts.{Parts}
use Rattle.node_views.specs.declared.parts.Parts.TheVariants as part
use Rattle.node_views.specs.Parts.{main_entered, main_row, main_settled}
use Rattle.node_views.specs.WellFormed.{is_well_formed}
use Rattle.world_core.specs.Start.{NobodyStarts, Start, made}
use Rattle.world_core.specs.Steps.{HostStep}
use Rattle.world_views.specs.Machine.{after, step_after}
use Rattle.world_views.specs.Sending.{is_own_work}
use Rattle.view_laws.specs.HostEvents.{events_of, is_membership}
use Rattle.view_laws.specs.Order.{sound_machine}
use Rattle.view_laws.proofs.memberships.Proposals.{me_is}
use Rattle.view_laws.specs.Runs.{view_after}
use Rattle.view_laws.specs.Votes.{main_of, membership_in, membership_of}
use Rattle.view_laws.proofs.eras.Rises.{Follows, entered_follows, host_follows, settled_above}
use Rattle.view_laws.proofs.follow.Hosts.{hosts_follow}
use Rattle.view_laws.proofs.memberships.Steps.{row_installs}
use Rattle.moment_laws.specs.Parts.{Enters, PartsDo, Takes, enters, leaves, settles, stays, takes}
use Rattle.moment_laws.proofs.MomentHosts.{part_some}
use Rattle.moment_laws.proofs.PartSteps.{after_do}
use Rattle.outcome_laws.proofs.coordinators.Lists.{count_both}
use Rattle.commit_laws.proofs.orders.Counts.{count_orders, is_counted}
use Rattle.commit_laws.proofs.orders.Main.{enters_counts, enters_none, goes_from, installing_is, main_counts, main_me}
use Rattle.commit_laws.proofs.orders.Main.{settles_none, younger_none}

-- the parts of a membership's host, whose membership has this view
pub record RunsMain (member : Member) (parts : Parts) (view : View) : Type 0 where
  pub main : MainPart
  pub is : parts ≡ part.Main main
  pub laid : main.qmgr.known.layout.view ≡ view
  pub me : main.qmgr.known.me ≡ member

main_of_parts : (member : Member) (parts : Parts) (q : QmgrState) (view : View) → membership_in parts ≡ Some q
    → view ≡ q.known.layout.view → q.known.me ≡ member → RunsMain member parts view
main_of_parts member (part.Main p) q view has is own =
    let same : p.qmgr ≡ q = cc has in
    record {
      main = p;
      is = refl;
      laid = ap (λ (s : QmgrState). s.known.layout.view) same ∙ sym is;
      me = ap (λ (s : QmgrState). s.known.me) same ∙ own;
    }
main_of_parts member (part.Shell p) q view has is own = absurd cc
main_of_parts member (part.Tc p) q view has is own = absurd cc
main_of_parts member (part.Ldm p) q view has is own = absurd cc

entered_laid : (p : MainPart) (view : View) → (main_entered p view).state.qmgr.known.layout.view ≡ view
entered_laid p view = ap (λ (y : Layout). y.view) (row_installs p.qmgr.known view).layout

entered_me : (p : MainPart) (view : View) → (main_entered p view).state.qmgr.known.me ≡ p.qmgr.known.me
entered_me p view = (row_installs p.qmgr.known view).me

-- the oldest by what a membership knows is that of its view
younger_known : (member : Member) (view : View) (k : Known) → k.me ≡ member → k.layout.view ≡ view
    → is_oldest_of member view.full ≡ false → is_oldest k ≡ false
younger_known member view k own laid young =
    subst (λ (m : Member). is_oldest_of m k.layout.view.full ≡ false) (sym own)
    (subst (λ (v : View). is_oldest_of member v.full ≡ false) (sym laid) young)

-- what a membership goes on from isn't what a host asks itself for, so what its blocks take of it counts
goes_plain : (last number : ℕ) (b : BlockId) (header : ℕ) (body : Body) → goes_from last number b header body ≡ true
    → is_own_work body ≡ false
goes_plain last number b header (Host (Continue Members at)) is = refl
goes_plain last number b header body is = absurd (true≢false (sym is))

counts_so : (goes own work sound : Bool) → (goes ≡ true → work ≡ false) → sound ≡ true
    → one_if goes ≤ (if (own && work) || not sound then 0 else one_if goes)
counts_so false own work sound plain is = omega arith
counts_so true own true sound plain is = absurd (true≢false (plain refl))
counts_so true own work false plain is = absurd (true≢false (sym is))
counts_so true true false true plain is = omega arith
counts_so true false false true plain is = omega arith

rises_one : (a b : ℕ) → a < b → one_if (nat_lt a b) ≡ 1
rises_one a b above = ap one_if (is a b above)
  where
    is : (a b : ℕ) → a < b → nat_lt a b ≡ true
    is a b above = grind (arith, nat_tests)

module _ (start : Start) (nobody : NobodyStarts start) (member : Member) (there : IsIn member (made start))
    (log : List HostStep) (e : HostStep)
    (younger : (view_after start (main_of start member) log).number < e.step.taken.view.number
    → is_oldest_of member e.step.taken.view.full ≡ false)
  where
    abbrev h : ℕ
    h = main_of start member

    abbrev x : Signal
    x = e.step.taken

    abbrev before : View
    before = view_after start (main_of start member) log

    abbrev behind : View
    behind = view_after start (main_of start member) (e ∷ log)

    abbrev sends : List Outgoing
    sends = (step_after start (main_of start member) log e).effects.sends

    runs : RunsMain member (after start (main_of start member) log).parts (view_after start (main_of start member) log)
    runs =
        let follows = hosts_follow start nobody member log there in
        main_of_parts member (after start h log).parts (membership_of start member log) before follows.state
        follows.view
        (me_is member (first_layout start.shape) (events_of is_membership start (main_of start member) log))

    did : PartsDo start.shape (after start h log).parts before x (after start h (e ∷ log)).parts behind sends
    did = after_do start nobody h (part_some start host_part.Main member) log e

    -- what is sent of the kind in a view whose list of orders has the order to the takeover there
    module _ (last : ℕ) (here : last ≡ length (members_of behind)) where
      abbrev risen : ℕ
      risen = one_if (nat_lt before.number behind.number)

      abbrev took : ℕ
      took =
          if (sound_machine start).asked e then 0
          else one_if (goes_from last behind.number x.to.block x.view.number x.body)

      -- the parts before the signal is taken, with what was sent before
      record Between (inside : Parts) (stood : View) (front : List Outgoing) : Type 0 where
        own : RunsMain member inside stood
        none : count_orders last front ≡ 0
        follows : Follows (first_layout start.shape) inside stood
        up : before.number ≤ stood.number

      between_by : (inside : Parts) (stood : View) (front : List Outgoing)
          → Enters (after start h log).parts before x inside stood front → Between inside stood front
      between_by inside stood front (stays same stands none) = record {
        own = subst (λ v. RunsMain member inside v) (sym stands)
            (subst (λ parts. RunsMain member parts before) (sym same) runs);
        none = ap (count_orders last) none;
        follows =
            subst (λ v. Follows (first_layout start.shape) inside v) (sym stands)
            (subst (λ parts. Follows (first_layout start.shape) parts before) (sym same)
            (host_follows start nobody h log));
        up = let is = ap (λ (v : View). v.number) stands in omega (arith, is);
      }
      between_by inside stood front (enters above same stands sent) = record {
        own = record {
          main = (main_entered runs.main x.view).state;
          is = same ∙ ap (λ parts. (parts_entered parts x.view).state) runs.is;
          laid = entered_laid runs.main x.view ∙ sym stands;
          me = entered_me runs.main x.view ∙ runs.me;
        };
        none =
            ap (count_orders last) (sent ∙ ap (λ parts. (parts_entered parts x.view).effects.sends) runs.is)
            ∙ enters_none runs.main x last x.view
            (younger_known member x.view (installing runs.main.qmgr.known x.view)
            ((installing_is runs.main.qmgr.known x.view).0 ∙ runs.me) (installing_is runs.main.qmgr.known x.view).1
            (younger above));
        follows =
            subst (λ v. Follows (first_layout start.shape) inside v) (sym stands)
            (subst (λ parts. Follows (first_layout start.shape) parts x.view) (sym same)
            (entered_follows (first_layout start.shape) (after start h log).parts before x.view
            (host_follows start nobody h log)));
        up = let is = ap (λ (v : View). v.number) stands in omega (arith, is, above);
      }

      takes_few : (inside : Parts) (stood : View) (front rest : List Outgoing) → Between inside stood front
          → Takes start.shape inside stood x (after start h (e ∷ log)).parts behind rest
          → count_orders last front + count_orders last rest ≤ risen + took
      takes_few inside stood front rest own (leaves same stands none) =
          let nothing = own.none in
          let no_rest = ap (count_orders last) none in
          omega (arith, nothing, no_rest)
      takes_few inside stood front rest own (takes passed settled same stands sent) =
          let nothing = own.none in
          omega (arith, nothing, row)
        where
          p : MainPart
          p = own.own.main

          laid : p.qmgr.known.layout.view ≡ behind
          laid = own.own.laid ∙ sym stands

          in_view : count_orders last (main_row p x.to.block x).effects.sends
              ≤ one_if (goes_from last behind.number x.to.block x.view.number x.body)
          in_view =
              subst (λ n. count_orders n (main_row p x.to.block x).effects.sends
              ≤ one_if (goes_from n behind.number x.to.block x.view.number x.body)) (sym here)
              (subst (λ (v : View). count_orders (length (members_of v)) (main_row p x.to.block x).effects.sends
              ≤ one_if (goes_from (length (members_of v)) v.number x.to.block x.view.number x.body)) laid
              (main_counts p x x.to.block))

          row : count_orders last rest ≤ took
          row =
              subst (λ xs. count_orders last xs ≤ took)
              (sym (sent ∙ ap (λ parts. (parts_row parts x).effects.sends) own.own.is))
              (omega (arith, in_view, counted))
            where
              counted : one_if (goes_from last behind.number x.to.block x.view.number x.body) ≤ took
              counted =
                  counts_so (goes_from last behind.number x.to.block x.view.number x.body) (x.from.0 == e.host)
                  (is_own_work x.body) (is_well_formed start.shape x)
                  (goes_plain last behind.number x.to.block x.view.number x.body) passed.sound
      takes_few inside stood front rest own (settles passed settled same sent) =
          let nothing = own.none in
          let up = own.up in
          let above : stood.number < behind.number =
          settled_above (first_layout start.shape) inside stood x behind own.follows settled in
          omega (arith, nothing, rest_few, rises_one before.number behind.number (omega (arith, up, above)))
        where
          p : MainPart
          p = own.own.main

          now : MainPart
          now = (main_row p x.to.block x).state

          rest_is : rest ≡ (main_row p x.to.block x).effects.sends ++ (main_entered now behind).effects.sends
          rest_is =
              sent
              ∙ ap (λ parts. (parts_row parts x).effects.sends
              ++ (parts_entered (parts_row parts x).state behind).effects.sends) own.own.is

          settled_main : main_settled p x.to.block x ≡ Some behind
          settled_main = sym (ap (λ parts. settled_at parts x) own.own.is) ∙ settled

          rest_few : count_orders last rest ≤ 1
          rest_few =
              omega (
                arith,
                ap (count_orders last) rest_is,
                count_both (is_counted last) (main_row p x.to.block x).effects.sends
                    (main_entered now behind).effects.sends,
                settles_none p x last behind settled_main,
                enters_counts now x last behind,
              )

      -- who isn't the oldest of that view sends none
      module _ (young : is_oldest_of member behind.full ≡ false) where
        takes_none : (inside : Parts) (stood : View) (front rest : List Outgoing) → Between inside stood front
            → Takes start.shape inside stood x (after start h (e ∷ log)).parts behind rest → count_orders last rest ≡ 0
        takes_none inside stood front rest own (leaves same stands none) = ap (count_orders last) none
        takes_none inside stood front rest own (takes passed settled same stands sent) =
            ap (count_orders last) (sent ∙ ap (λ parts. (parts_row parts x).effects.sends) own.own.is)
            ∙ younger_none own.own.main x last
            (younger_known member behind own.own.main.qmgr.known own.own.me (own.own.laid ∙ sym stands) young)
            x.to.block
        takes_none inside stood front rest own (settles passed settled same sent) =
            omega (
              arith,
              ap (count_orders last) (sent ∙ ap (λ parts. (parts_row parts x).effects.sends
                  ++ (parts_entered (parts_row parts x).state behind).effects.sends) own.own.is),
              count_both (is_counted last) (main_row p x.to.block x).effects.sends
                  (main_entered now behind).effects.sends,
              settles_none p x last behind settled_main,
              enters_none now x last behind
                  (younger_known member behind (installing now.qmgr.known behind)
                  ((installing_is now.qmgr.known behind).0 ∙ main_me p x x.to.block ∙ own.own.me)
                  (installing_is now.qmgr.known behind).1 young),
            )
          where
            p : MainPart
            p = own.own.main

            now : MainPart
            now = (main_row p x.to.block x).state

            settled_main : main_settled p x.to.block x ≡ Some behind
            settled_main = sym (ap (λ parts. settled_at parts x) own.own.is) ∙ settled

        pub step_none : count_orders last (step_after start (main_of start member) log e).effects.sends ≡ 0
        step_none = by did.sent
          where
            between : Between did.between did.stood did.front
            between = between_by did.between did.stood did.front did.enters

            by : (sends ≡ did.front ++ did.rest) ⊎ (sends ≡ []) → count_orders last sends ≡ 0
            by (inl is) =
                let front_none = between.none in
                omega (
                  arith,
                  ap (count_orders last) is,
                  count_both (is_counted last) did.front did.rest,
                  front_none,
                  takes_none did.between did.stood did.front did.rest between did.takes,
                )
            by (inr is) = ap (count_orders last) is

      -- so it is of all that its host sends
      pub step_counts : count_orders last (step_after start (main_of start member) log e).effects.sends
          ≤ one_if (nat_lt (view_after start (main_of start member) log).number
          (view_after start (main_of start member) (e ∷ log)).number)
          + (if (sound_machine start).asked e then 0
          else one_if (goes_from last (view_after start (main_of start member) (e ∷ log)).number e.step.taken.to.block
          e.step.taken.view.number e.step.taken.body))
      step_counts = by did.sent
        where
          few : count_orders last did.front + count_orders last did.rest ≤ risen + took
          few =
              takes_few did.between did.stood did.front did.rest (between_by did.between did.stood did.front did.enters)
              did.takes

          by : (sends ≡ did.front ++ did.rest) ⊎ (sends ≡ []) → count_orders last sends ≤ risen + took
          by (inl is) =
              omega (arith, few, ap (count_orders last) is, count_both (is_counted last) did.front did.rest)
          by (inr is) = omega (arith, ap (count_orders last) is)
