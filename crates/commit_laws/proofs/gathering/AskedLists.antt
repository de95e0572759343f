-- A takeover's list of asks for reports: the rows of each node are asked once, and eight of them at once.
use Rattle.std.proofs.Common.{◌≡◌, ◌≢◌, ◌≤◌, ◌⊎◌, ◌+◌, ◌==◌, ◌&&◌, ◌∙◌, ℕ, Bool, true, false, not, List, [], ◌∷◌, drop}
use Rattle.std.proofs.Common.{inl, inr, length, map, nat_lt, refl, sym, ap, arith, take}
use Rattle.std.proofs.lemmas.Bool.{eqb-true, true≢false}
use Rattle.std.proofs.lemmas.Bool.Decides.{nat_tests}
use Rattle.std.specs.List.{count_by, flat_map}
use Rattle.std.specs.Prelude.{Option, None, Some, remove, slice_get}
use Rattle.run_theory.specs.Lists.{Each}
use Rattle.run_theory.proofs.EachSent.{each_flat, each_mapped}
use Rattle.run_theory.proofs.Pasts.{each_append, each_map}
use Rattle.sig_core.specs.declared.member.Member.{Member}
use Rattle.sig_core.specs.declared.member.TxId.{TxId}
use Rattle.sig_core.specs.declared.outs.Outgoing.{Outgoing}
use Rattle.sig_core.specs.declared.portion.TheConstants.{PORTION}
use Rattle.sig_core.specs.declared.signal.Body.{Body}
use Rattle.sig_core.specs.declared.signal.host.Work.TheVariants as work
use Rattle.sig_core.specs.declared.view.View.{View}
use Rattle.sig_core.specs.Place.{takeover}
use Rattle.sig_core.specs.Portion.{left_if, rest_if}
use Rattle.sig_core.specs.Step.{Step}
use Rattle.frag_map.specs.Layout.{Layout, chain_of}
use Rattle.tc_block.specs.Complete.{one_if}
use Rattle.lqh_views.specs.WholeReports.{asks}
use Rattle.takeover_block.specs.declared.gathered.Gathered.{Gathered}
use Rattle.takeover_block.specs.declared.stage.Stage.{Stage}
use Rattle.takeover_block.specs.declared.stage.Stage.TheVariants.{Aborting, Committing, Completing, Gathering, Resting}
use Rattle.takeover_block.specs.Rule.{entering, finishing, ruling, ruling_by, way_by, way_of}
use Rattle.takeover_block.specs.Sends.{abort_at, ask_effects, ask_left, ask_of, asks_of, front_sends, key_sends}
use Rattle.takeover_block.specs.Sends.{key_sends_along, stage_effects, stage_sends}
use Rattle.takeover_block.specs.State.{TakeoverState, with_gathered}
use Rattle.takeover_block.proofs.EachTakeover.{is_gathering}
use Rattle.view_laws.specs.Sets.{AreApart, IsApart}
use Rattle.view_laws.proofs.words.Sent.{AreOf, IsOf, portion_kinds}
use Rattle.outcome_laws.proofs.coordinators.Lists.{count_both, count_more}
use Rattle.commit_laws.proofs.drive.Lists.{portion_more, taken_less}
use Rattle.commit_laws.proofs.gathering.Words.{AskNone, asks_at}

module _ (node : ℕ) where
  -- how often the rows of the node are asked
  abbrev pub counted : List Outgoing → ℕ
  counted sends = count_by (λ (o : Outgoing). asks_at node o.to o.body) sends

  pub none_counted : (sends : List Outgoing) → AskNone sends → counted sends ≡ 0
  none_counted [] none = refl
  none_counted (o ∷ sends) none =
      omega (
        arith,
        count_more (λ (sent : Outgoing). asks_at node sent.to sent.body) o sends,
        off (asks o.body) (o.to.node == node) none.0,
        none_counted sends none.1,
      )
    where
      off : (a b : Bool) → a ≡ false → one_if (a && b) ≡ 0
      off true b is = absurd (true≢false is)
      off false b is = refl

  one_counted : (m : Member) (ms : List Member)
      → counted (map ask_of (m ∷ ms)) ≡ one_if (m.node == node) + counted (map ask_of ms)
  one_counted m ms = count_more (λ (sent : Outgoing). asks_at node sent.to sent.body) (ask_of m) (map ask_of ms)

  apart_none : (m : Member) (ms : List Member) → (m.node == node) ≡ true → Each (IsApart m) ms
      → counted (map ask_of ms) ≡ 0
  apart_none m [] is apart = refl
  apart_none m (one ∷ ms) is apart =
      omega (arith, one_counted one ms, ap one_if off, apart_none m ms is apart.1)
    where
      differ : (a b : ℕ) → a ≢ b → (a == b) ≡ false
      differ a b other = grind (arith, nat_tests)

      off : (one.node == node) ≡ false
      off = differ one.node node (λ same. apart.0 (eqb-true m.node node is ∙ sym same))

  apart_once : (ms : List Member) → AreApart ms → counted (map ask_of ms) ≤ 1
  apart_once [] apart = omega arith
  apart_once (m ∷ ms) apart = by (m.node == node) refl (apart_once ms apart.2)
    where
      by : (b : Bool) → (m.node == node) ≡ b → counted (map ask_of ms) ≤ 1 → counted (map ask_of (m ∷ ms)) ≤ 1
      by true is rest = omega (arith, one_counted m ms, ap one_if is, apart_none m ms is apart.1)
      by false off rest = omega (arith, one_counted m ms, ap one_if off, rest)

  -- of a view without starting members
  pub asks_once : (view : View) → AreApart view.full → view.starting ≡ [] → counted (asks_of view) ≤ 1
  unfolding asks_of
  asks_once view apart none =
      let nobody : counted (map ask_of view.starting) ≡ 0 = ap (λ (ms : List Member). counted (map ask_of ms)) none in
      omega (
        arith,
        count_both (λ (o : Outgoing). asks_at node o.to o.body) (map ask_of view.full) (map ask_of view.starting),
        nobody,
        apart_once view.full apart,
      )

  -- what an event sends of the list
  pub part_few : (by : ℕ) (view : View) (at : ℕ)
      → counted (ask_effects by view at).sends + counted (take at (asks_of view))
      ≤ counted (take (at + PORTION) (asks_of view))
  unfolding ask_effects
  part_few by view at =
      omega (
        arith,
        count_both (λ (o : Outgoing). asks_at node o.to o.body) (take PORTION (drop at (asks_of view)))
            (rest_if (takeover by) work.Members at (nat_lt (at + PORTION) (length (asks_of view)))),
        none (nat_lt (at + PORTION) (length (asks_of view))),
        portion_more (λ (o : Outgoing). asks_at node o.to o.body) at (asks_of view),
      )
    where
      none : (b : Bool) → counted (rest_if (takeover by) work.Members at b) ≡ 0
      none true = refl
      none false = refl

  pub some_few : (place : ℕ) (view : View) → counted (take place (asks_of view)) ≤ counted (asks_of view)
  some_few place view = taken_less (λ (o : Outgoing). asks_at node o.to o.body) place (asks_of view)

pub left_so : (view : View) (at : ℕ) → (ask_left view at ≡ 0) ⊎ (ask_left view at ≡ at + PORTION)
unfolding ask_left
left_so view at = by (nat_lt (at + PORTION) (length (asks_of view)))
  where
    by : (b : Bool) → (left_if at b ≡ 0) ⊎ (left_if at b ≡ at + PORTION)
    by true = inr refl
    by false = inl refl

-- what a takeover sends for transactions asks for no report
abbrev is_plain : Body → Bool
is_plain body = not (asks body)

plain_ask_none : (sends : List Outgoing) → AreOf is_plain sends → AskNone sends
plain_ask_none sends all =
    each_map (IsOf is_plain) (λ (o : Outgoing). asks o.body ≡ false) sends (λ o is. by (asks o.body) is) all
  where
    by : (b : Bool) → not b ≡ true → b ≡ false
    by true is = absurd (true≢false (sym is))
    by false is = refl

along_plain : (tx : TxId) (stage : Stage) (key : List ℕ) (chain : List Member)
    → AreOf is_plain (key_sends_along tx stage key chain)
along_plain tx Resting key chain = tt
along_plain tx (Gathering n) key chain = tt
along_plain tx (Committing epoch n) key chain = (refl, tt)
along_plain tx (Completing epoch n) key chain = (refl, tt)
along_plain tx (Aborting n) key chain = each_mapped (IsOf is_plain) (abort_at tx key) chain (λ m. refl)

key_plain : (layout : Layout) (tx : TxId) (stage : Stage) (key : List ℕ)
    → AreOf is_plain (key_sends layout tx stage key)
unfolding key_sends
key_plain layout tx stage key = along_plain tx stage key (chain_of layout key)

front_plain : (tx : TxId) (stage : Stage) → AreOf is_plain (front_sends tx stage)
unfolding front_sends
front_plain tx Resting = tt
front_plain tx (Gathering n) = tt
front_plain tx (Committing epoch n) = tt
front_plain tx (Completing epoch n) = (refl, tt)
front_plain tx (Aborting n) = tt

pub stage_asks_none : (by : ℕ) (layout : Layout) (stage : Stage) (g : Gathered) (at : ℕ)
    → AskNone (stage_effects by layout stage g at).sends
unfolding stage_effects stage_sends
stage_asks_none by layout stage g at =
    plain_ask_none (stage_effects by layout stage g at).sends
    (portion_kinds is_plain (takeover by) (work.Transaction g.tx) (stage_sends layout stage g) at (λ left. refl)
    (each_append (IsOf is_plain) (front_sends g.tx stage) (flat_map (key_sends layout g.tx stage) g.keys)
    (front_plain g.tx stage)
    (each_flat (IsOf is_plain) (key_sends layout g.tx stage) g.keys (key_plain layout g.tx stage))))

-- a step that asks for none, and gathers nothing behind
pub record Leaves (step : Step TakeoverState) : Type 0 where
  pub silent : AskNone step.effects.sends
  pub off : is_gathering step.state.stage ≡ false

pub enters_leaves : (s : TakeoverState) (g : Gathered) (stage : Stage) → is_gathering stage ≡ false
    → Leaves (entering s g stage)
unfolding entering
enters_leaves s g stage off = record { silent = stage_asks_none s.node s.layout stage g 0; off = off }

rules_by : (s : TakeoverState) (first : Option Gathered) → Leaves (ruling_by s first)
unfolding way_of
rules_by s None = record { silent = (refl, (refl, tt)); off = refl }
rules_by s (Some g) = enters_leaves s g (way_of s.layout g) (by g.epoch)
  where
    by : (o : Option ℕ) → is_gathering (way_by s.layout g.keys o) ≡ false
    by (Some epoch) = refl
    by None = refl

pub rules_leave : (s : TakeoverState) → Leaves (ruling s)
unfolding ruling
rules_leave s = rules_by s (slice_get s.gathered 0)

pub finishes_leave : (s : TakeoverState) → Leaves (finishing s)
unfolding finishing
finishes_leave s = rules_leave (with_gathered s (remove s.gathered 0))
