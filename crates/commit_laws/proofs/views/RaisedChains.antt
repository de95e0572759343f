-- Where the current view rises, and a transaction that goes on keeps to it, it touched no key whose primary isn't that
-- of before, and wrote none of which a replica isn't one still.
use Rattle.std.proofs.Common.{◌≡◌, ◌≤◌, ◌<◌, ◌⊎◌, ◌||◌, ◌&&◌, ◌∙◌, ℕ, Bool, true, false, List, [], ◌∷◌, refl, sym, ap}
use Rattle.std.proofs.Common.{subst, inl, inr, arith}
use Rattle.std.proofs.lemmas.Bool.{cases_lt, true≢false}
use Rattle.std.specs.List.{list_any, slice_get}
use Rattle.std.specs.Prelude.{not, cond, None, Some}
use Rattle.run_theory.specs.Lists.{Each, IsIn}
use Rattle.run_theory.proofs.Pasts.{each_in}
use Rattle.frag_map.specs.Layout.{chain_of}
use Rattle.sig_core.specs.Chain.{primary_of}
use Rattle.sig_core.specs.Op.{key_of}
use Rattle.sig_core.specs.Same.{same_key}
use Rattle.sig_core.specs.declared.member.Member.{Member}
use Rattle.sig_core.specs.declared.member.TxId.{TxId}
use Rattle.sig_core.specs.declared.op.Answer.{Answer}
use Rattle.sig_core.specs.declared.op.Op.{Op}
use Rattle.sig_core.specs.declared.view.View.{View}
use Rattle.tc_block.specs.declared.phase.Phase.{Phase}
use Rattle.tc_block.specs.declared.phase.Phase.TheVariants.{Aborting, Committing, Completing, Open, Verifying}
use Rattle.tc_block.specs.declared.touched.Touched.{Touched}
use Rattle.tc_block.specs.declared.transaction.Transaction.{Transaction}
use Rattle.tc_block.specs.Doom.{is_among, is_undecided}
use Rattle.tc_block.specs.Touched.{is_on}
use Rattle.row_records.proofs.KeyLemmas as index
use Rattle.key_laws.specs.OneKey.{ops_on}
use Rattle.host_laws.proofs.coordinator.OfLive.{each_found}
use Rattle.run_laws.specs.Keyed.{HasTouched, IsTouchedRightly, IsWrittenRightly}
use Rattle.world_core.specs.History.{is_done}
use Rattle.world_core.specs.Start.{Start, made}
use Rattle.world_core.specs.Steps.{HostStep}
use Rattle.view_laws.specs.Runs.{WasInstalled, view_after}
use Rattle.view_laws.specs.Sets.{IsPart}
use Rattle.view_laws.proofs.runs.AllSound.{have_orderly}
use Rattle.view_laws.proofs.runs.ViewsShrink.{views_shrink}
use Rattle.view_laws.proofs.runs.ChosenViews.{one_view}
use Rattle.view_laws.proofs.ballots.MadeSets.{part_self}
use Rattle.moment_laws.specs.Moments.{IsMoment, current, logs_of}
use Rattle.moment_laws.specs.Places.{tc_of}
use Rattle.moment_laws.proofs.MomentHosts.{tc_low}
use Rattle.moment_laws.proofs.MomentViews.{current_above, current_number, moment_installed, moment_less}
use Rattle.outcome_laws.specs.Counts.{coordinator_member}
use Rattle.request_laws.specs.Blocks.{coordinator_after}
use Rattle.request_laws.specs.Routed.{IsGivenUp, WasAskedIn, WasDrivenIn, layout_in}
use Rattle.request_laws.specs.Routes.{HasRoutes, HasRoutesIn, IsTouchedRouted, touched_chain}
use Rattle.request_laws.specs.Strays.{KeepsTo}
use Rattle.request_laws.proofs.routes.All.{signals_are_routed}
use Rattle.request_laws.proofs.routes.ChainsStay.{routes_stay}
use Rattle.request_laws.proofs.routes.PartsOfTheFirst.{nobody_later, was_in}
use Rattle.request_laws.proofs.strays.KeptToInstalled.{keeps_to_whole}
use Rattle.commit_laws.specs.Commits.{CommitsStand}
use Rattle.commit_laws.specs.Going.{is_written_by}
use Rattle.commit_laws.specs.Parts.{IsHale}
use Rattle.commit_laws.proofs.fates.Going.{hale_made, hale_stands, hale_ways}
use Rattle.commit_laws.proofs.views.RaisedGoing.{raised_unasked, raised_was}
use Rattle.commit_laws.proofs.records.Replicas.{chain_replica}
use Rattle.commit_laws.proofs.settled.Kept.{AreSame}
use Rattle.commit_laws.proofs.hosts.SomePasses.{passing}

-- the first of a list by the list of it alone
first_by : (one other : List Member) → primary_of one ≡ primary_of other → (m : Member) → slice_get one 0 ≡ Some m
    → slice_get other 0 ≡ Some m
first_by [] other same m is = absurd cc
first_by (a ∷ one) [] same m is = absurd cc
first_by (a ∷ one) (b ∷ other) same m is = let heads : a ≡ b = cc in ap (λ x. Some x) (sym heads) ∙ is

-- where its operation is on a key that it touched is
none_on : (key : List ℕ) (touched : List Touched) (ops : List (Op × Answer)) → list_any (is_on key) touched ≡ false
    → Each (λ (op : Op × Answer). HasTouched touched (key_of op.0)) ops → ops_on key ops ≡ []
none_on key touched [] off all = refl
none_on key touched (op ∷ ops) off all =
    by (same_key (key_of op.0) key) refl (none_on key touched ops off all.1)
  where
    by : (b : Bool) → same_key (key_of op.0) key ≡ b → ops_on key ops ≡ []
        → cond b (op ∷ ops_on key ops) (ops_on key ops) ≡ []
    by true same rest =
        absurd (true≢false (sym all.0
        ∙ (ap (λ k. list_any (is_on k) touched) (index.same (key_of op.0) key same) ∙ off)))
    by false other rest = rest

-- who hasn't gone forth, and isn't lost, isn't doomed
pub not_doomed : (forth back among : Bool) → forth ≡ false → (not forth && (back || among)) ≡ false → among ≡ false
not_doomed true back among off spared = absurd (true≢false off)
not_doomed false true among off spared = absurd (true≢false spared)
not_doomed false false among off spared = spared

module _ (start : Start) (all : ℕ → List HostStep) (e : HostStep) (es : List HostStep)
    (moment : IsMoment start all (e ∷ es))
    (above : current_number start (logs_of start es) < current_number start (logs_of start (e ∷ es)))
    (commits : CommitsStand start (logs_of start es)) (tx : TxId) (t : Transaction)
    (hale : IsHale start (logs_of start (e ∷ es)) tx t) (keeps : KeepsTo (current start (logs_of start (e ∷ es))) t)
  where
    abbrev old : ℕ → List HostStep
    old = logs_of start es

    abbrev new : ℕ → List HostStep
    new = logs_of start (e ∷ es)

    abbrev member : Member
    member = coordinator_member tx

    abbrev log : List HostStep
    log = old (tc_of start (coordinator_member tx))

    -- the view of its coordinator, the current one before the event, and the one behind it
    abbrev stood : View
    stood = view_after start (tc_of start (coordinator_member tx)) log

    abbrev was : View
    was = current start old

    abbrev now : View
    now = current start new

    before : IsMoment start all es
    before = moment_less start all e es moment

    there : IsIn (coordinator_member tx) (made start)
    there = hale_made start all (e ∷ es) moment tx t hale

    went : IsHale start old tx t
    went = raised_was start all e es moment above tx t hale

    none : t.asked ≡ None
    none = raised_unasked start all e es moment above tx t hale

    keyed : IsTouchedRightly t
    keyed = each_found _ _ tx t (hale_stands start all es before tx t went).keyed went.there

    pub undoomed : is_among (coordinator_after start member log).doomed tx ≡ false
    undoomed = not_doomed _ _ _ (hale_ways start all es before tx t went).0 went.spared

    -- its routes are those of its coordinator's view
    routes_in : (phase : Phase) → is_undecided phase ≡ true
        → HasRoutesIn (layout_in start stood) (WasAskedIn start old stood) (WasDrivenIn start old stood)
        (IsGivenUp start old) (coordinator_after start member log) tx t phase
        → HasRoutes (layout_in start stood) t
    routes_in Open is has = has undoomed (inl none)
    routes_in Verifying is has = has undoomed (inl none)
    routes_in (Committing epoch awaited) is has = absurd (true≢false (sym is))
    routes_in (Completing epoch awaited) is has = absurd (true≢false (sym is))
    routes_in (Aborting why verifying awaited) is has = absurd (true≢false (sym is))

    routes : HasRoutes (layout_in start stood) t
    routes =
        routes_in t.phase went.undecided
        (each_found _ _ tx t ((signals_are_routed start all es before).coordinators member there) went.there)

    stood_low : stood.number ≤ was.number
    stood_low = current_above start old moment.cluster.nobody (tc_of start member)
        (tc_low start moment.cluster.nobody member there)

    stood_installed : WasInstalled start all stood
    stood_installed = was_in start all moment.cluster member there log (before.inside (tc_of start member))

    was_installed : WasInstalled start all was
    was_installed = moment_installed start all es before

    now_installed : WasInstalled start all now
    now_installed = moment_installed start all (e ∷ es) moment

    part_was : IsPart stood was
    part_was = by (cases_lt stood.number was.number)
      where
        by : (stood.number < was.number) ⊎ (was.number ≤ stood.number) → IsPart stood was
        by (inl less) = views_shrink start all moment.cluster stood was stood_installed was_installed less
        by (inr high) =
            subst (IsPart stood)
            (one_view have_orderly start all moment.cluster stood was stood_installed was_installed
            (let low = stood_low in omega (arith, low, high)))
            (part_self stood)

    part_now : IsPart stood now
    part_now =
        views_shrink start all moment.cluster stood now stood_installed now_installed
        (let low = stood_low in omega (arith, low, above))

    routes_now : HasRoutes (layout_in start now) t
    routes_now =
        routes_stay (layout_in start stood) now
        (nobody_later start all moment.cluster stood stood_installed) part_now t none keeps routes

    routes_was : HasRoutes (layout_in start was) t
    routes_was =
        routes_stay (layout_in start stood) was
        (nobody_later start all moment.cluster stood stood_installed) part_was t none
        (keeps_to_whole was now (views_shrink start all moment.cluster was now was_installed now_installed above) t
        keeps)
        routes

    -- a key that it touched
    module _ (u : Touched) (touched : IsIn u t.touched) where
      of_now : u.chain ≡ touched_chain (layout_in start now) u u.written
      of_now = each_in (IsTouchedRouted (layout_in start now)) u t.touched routes_now.touched touched

      of_was : u.chain ≡ touched_chain (layout_in start was) u u.written
      of_was = each_in (IsTouchedRouted (layout_in start was)) u t.touched routes_was.touched touched

      primary_same : primary_of (chain_of (layout_in start now) u.key)
          ≡ primary_of (chain_of (layout_in start was) u.key)
      primary_same = by u.written of_now of_was
        where
          by : (b : Bool) → u.chain ≡ touched_chain (layout_in start now) u b
              → u.chain ≡ touched_chain (layout_in start was) u b
              → primary_of (chain_of (layout_in start now) u.key) ≡ primary_of (chain_of (layout_in start was) u.key)
          by true one other = ap primary_of (sym one ∙ other)
          by false one other = sym one ∙ other

      chain_same : u.written ≡ true
          → chain_of (layout_in start was) u.key ≡ chain_of (layout_in start now) u.key
      chain_same is =
          sym (subst (λ b. u.chain ≡ touched_chain (layout_in start was) u b) is of_was)
          ∙ subst (λ b. u.chain ≡ touched_chain (layout_in start now) u b) is of_now

      written_is : is_written_by t.ops u.key ≡ true → u.written ≡ true
      written_is is = each_in (IsWrittenRightly t.ops) u t.touched keyed.written touched ∙ is

      same_on : AreSame start all e es moment commits u.key tx t.ops
      same_on = record {
        primary = λ m is. inr (first_by _ _ primary_same m is);
        written = λ wrote m is.
            chain_replica start all (e ∷ es) moment u.key m (subst (IsIn m) (chain_same (written_is wrote)) is.chained);
      }

    nothing_written : (ops : List (Op × Answer)) → ops ≡ [] → list_any (λ (op : Op × Answer). is_done op.1) ops ≡ true
        → ⊥
    nothing_written [] empty is = true≢false (sym is)
    nothing_written (op ∷ ops) empty is = absurd cc

    pub raised_same : (key : List ℕ) → AreSame start all e es moment commits key tx t.ops
    raised_same key = by (list_any (is_on key) t.touched) refl
      where
        by : (b : Bool) → list_any (is_on key) t.touched ≡ b → AreSame start all e es moment commits key tx t.ops
        by true on =
            let one = passing (is_on key) t.touched on in
            subst (λ k. AreSame start all e es moment commits k tx t.ops) (index.same one.item.key key one.is)
            (same_on one.item one.there)
        by false off =
            let empty = none_on key t.touched t.ops off keyed.answered in
            record {
              primary = λ m is. inl empty;
              written = λ wrote m is. absurd (nothing_written (ops_on key t.ops) empty wrote);
            }
