-- A host that runs neither a membership nor the arbitrator sends no vote, and confirms a fence once at most, where it
-- is asked for one.
use Rattle.std.proofs.Common.{◌≡◌, ◌⊎◌, ◌≤◌, ◌+◌, ◌++◌, ◌||◌, ℕ, Bool, true, false, List, [], refl, ap, sym, subst}
use Rattle.std.proofs.Common.{arith, inl, inr}
use Rattle.std.specs.Prelude.{None}
use Rattle.run_theory.specs.Counts.{one_if, tally}
use Rattle.run_theory.specs.Lists.{Each}
use Rattle.run_theory.proofs.Pasts.{each_append, each_map}
use Rattle.run_theory.proofs.Tally.{tally_append, tally_none}
use Rattle.sig_core.specs.declared.outs.Outgoing.{Outgoing}
use Rattle.sig_core.specs.declared.place.BlockId.{BlockId}
use Rattle.sig_core.specs.declared.place.BlockId.TheVariants as block
use Rattle.sig_core.specs.declared.signal.Body.{Body}
use Rattle.sig_core.specs.declared.signal.Signal.{Signal}
use Rattle.sig_core.specs.declared.view.View.{View}
use Rattle.dih_node.specs.Orders as dih
use Rattle.node_views.specs.Blocks.{parts_entered, parts_row}
use Rattle.node_views.specs.declared.parts.Parts.{Parts}
use Rattle.node_views.specs.declared.parts.Parts.TheVariants.{Shell, Main, Tc, Ldm}
use Rattle.node_views.specs.declared.tc_part.TcPart.{TcPart}
use Rattle.node_views.specs.Parts.{tc_entered}
use Rattle.tc_views.specs.Views as coordinator
use Rattle.world_core.specs.Start.{Start}
use Rattle.world_core.specs.Steps.{HostStep}
use Rattle.world_views.specs.Machine.{after, step_after}
use Rattle.view_laws.specs.Votes.{OthersDontVote, arbiter_in, is_vote, membership_in}
use Rattle.view_laws.proofs.votes.Lists.{IsSaidOf, SayingAll, all_said}
use Rattle.view_laws.proofs.votes.NoVotes.{AreNoVotes, AreQuiet, IsNoVote, confirmation, is_confirming, is_fencing}
use Rattle.view_laws.proofs.votes.NoVotes.{untold_vote}
use Rattle.view_laws.proofs.votes.Parts.{others_quiet, own_node, still_others}

-- none of its blocks
abbrev no_block : BlockId → Bool
no_block block = false

abbrev pub confirms : Outgoing → Bool
confirms sent = is_confirming sent.body

-- each is no vote, or confirms a fence of this node; and no more than one does, where it is asked for
pub record AreAnswers (node : ℕ) (body : Body) (sends : List Outgoing) : Type 0 where
  pub each : Each (λ sent. IsNoVote sent ⊎ (sent ≡ confirmation node)) sends
  pub few : tally confirms sends ≤ one_if (is_fencing body)

-- what is no vote confirms nothing
no_vote_none : (vote fencing : Bool) (b : Bool) → (vote || (fencing || b)) ≡ false → b ≡ false
no_vote_none true fencing b off = absurd cc
no_vote_none false true b off = absurd cc
no_vote_none false false b off = off

none_confirm : (sends : List Outgoing) → AreNoVotes sends → Each (λ sent. confirms sent ≡ false) sends
none_confirm sends all =
    each_map IsNoVote (λ sent. confirms sent ≡ false) sends
    (λ sent off. no_vote_none (is_vote sent.body) (is_fencing sent.body) (is_confirming sent.body) off) all

none_counted : (sends : List Outgoing) → AreNoVotes sends → tally confirms sends ≡ 0
none_counted sends all = tally_none confirms sends (none_confirm sends all)

module _ (node : ℕ) (body : Body) where
  none_answers : (sends : List Outgoing) → AreNoVotes sends → AreAnswers node body sends
  none_answers sends all = record {
    each = each_map _ _ sends (λ sent off. inl off) all;
    few = omega (arith, none_counted sends all);
  }

  quiet_answers : (sends : List Outgoing) → AreQuiet node body sends → AreAnswers node body sends
  quiet_answers sends (inl none) = none_answers sends none
  quiet_answers sends (inr (asked, is)) = subst (AreAnswers node body) (sym is) (record {
    each = (inr refl, tt);
    few = omega (arith, ap one_if asked);
  })

  joined_answers : (sends more : List Outgoing)
      → tally confirms sends + tally confirms more ≤ one_if (is_fencing body)
      → AreAnswers node body sends → AreAnswers node body more → AreAnswers node body (sends ++ more)
  joined_answers sends more low one other = record {
    each = each_append _ sends more one.each other.each;
    few = omega (arith, tally_append confirms sends more, low);
  }

  front_answers : (more sends : List Outgoing) → AreNoVotes more → AreAnswers node body sends
      → AreAnswers node body (more ++ sends)
  front_answers more sends none are =
      joined_answers more sends (omega (arith, none_counted more none, are.few)) (none_answers more none) are

  behind_answers : (sends more : List Outgoing) → AreNoVotes more → AreAnswers node body sends
      → AreAnswers node body (sends ++ more)
  behind_answers sends more none are =
      joined_answers sends more (omega (arith, none_counted more none, are.few)) are (none_answers more none)

abbrev SaysAnswers : ℕ → Body → SayingAll
SaysAnswers node body = λ events sends. AreAnswers node body sends

said : (node : ℕ) (parts : Parts) (x : Signal) → membership_in parts ≡ None → arbiter_in parts ≡ None
    → own_node parts x.to.block ≡ node → IsSaidOf no_block (SaysAnswers node x.body) parts x
said node parts x no_membership no_arbiter own = record {
  opens = record {
    none = λ events. none_answers node x.body [] tt;
    front = λ events more sends none are. front_answers node x.body more sends none are;
  };
  row =
      subst (λ n. AreAnswers n x.body (parts_row parts x).effects.sends) own
      (quiet_answers (own_node parts x.to.block) x.body (parts_row parts x).effects.sends
      (others_quiet parts x no_membership no_arbiter));
  later = λ view sends more none are. behind_answers node x.body sends more none are;
}

tc_node : (p : TcPart) (view : View) (b : BlockId) → own_node (Tc (tc_entered p view).state) b ≡ own_node (Tc p) b
unfolding coordinator.install_row dih.install_row
tc_node p view block.Dih = refl
tc_node p view _ = refl

-- an installation leaves the node
pub still_node : (parts : Parts) (view : View) (b : BlockId)
    → own_node (parts_entered parts view).state b ≡ own_node parts b
still_node (Shell p) view b = refl
still_node (Main p) view b = refl
still_node (Tc p) view b = tc_node p view b
still_node (Ldm p) view b = refl

abbrev pub OthersAnswer : Type 0
OthersAnswer =
    (start : Start) (h : ℕ) (log : List HostStep) (e : HostStep) → membership_in (after start h log).parts ≡ None
    → arbiter_in (after start h log).parts ≡ None
    → AreAnswers (own_node (after start h log).parts e.step.taken.to.block) e.step.taken.body
    (step_after start h log e).effects.sends

pub others_answer : OthersAnswer
others_answer start h log e no_membership no_arbiter =
    let s = after start h log in
    let x = e.step.taken in
    let node = own_node s.parts x.to.block in
    let still = still_others s.parts x.view no_membership no_arbiter in
    all_said no_block x (SaysAnswers node x.body) s (said node s.parts x no_membership no_arbiter refl)
    (said node (parts_entered s.parts x.view).state x still.0 still.1 (still_node s.parts x.view x.to.block)) h

pub others_dont_vote : OthersDontVote
others_dont_vote start h log e no_membership no_arbiter =
    each_map _ _ (step_after start h log e).effects.sends by (others_answer start h log e no_membership no_arbiter).each
  where
    node : ℕ
    node = own_node (after start h log).parts e.step.taken.to.block

    by : (sent : Outgoing) → IsNoVote sent ⊎ (sent ≡ confirmation node) → is_vote sent.body ≡ false
    by sent (inl off) = untold_vote sent.body off
    by sent (inr is) = ap (λ (s : Outgoing). is_vote s.body) is
