-- What a main part sends of votes, its membership sends at a signal that it takes.
use Rattle.std.proofs.Common.{◌≡◌, ◌∙◌, true, List, [], ◌∷◌, refl, sym, ap, subst}
use Rattle.std.specs.Prelude.{Some}
use Rattle.std.proofs.lemmas.Bool.{false≢true}
use Rattle.frag_map.specs.Layout.{Layout, first_layout}
use Rattle.run_theory.specs.Lists.{Each, IsIn}
use Rattle.run_theory.proofs.Pasts.{each_from, each_map}
use Rattle.sig_core.specs.declared.member.Member.{Member}
use Rattle.sig_core.specs.declared.outs.Outgoing.{Outgoing}
use Rattle.sig_core.specs.declared.place.BlockId.{BlockId}
use Rattle.sig_core.specs.declared.place.BlockId.TheVariants as block
use Rattle.sig_core.specs.declared.signal.Signal.{Signal}
use Rattle.sig_core.specs.declared.view.View.{View}
use Rattle.node_views.specs.Blocks.{parts_entered, parts_row}
use Rattle.node_views.specs.declared.main_part.MainPart.{MainPart}
use Rattle.node_views.specs.declared.parts.Parts.{Parts}
use Rattle.node_views.specs.declared.parts.Parts.TheVariants.{Shell, Main, Tc, Ldm}
use Rattle.node_views.specs.Parts.{main_row}
use Rattle.qmgr_block.specs.Laws.{Event, installs, takes}
use Rattle.qmgr_block.specs.Qmgr.{qmgr_installed, qmgr_row}
use Rattle.qmgr_block.specs.State.{QmgrState}
use Rattle.world_core.specs.Start.{NobodyStarts, Start, made}
use Rattle.world_core.specs.Steps.{HostStep}
use Rattle.world_views.specs.Machine.{after, step_after}
use Rattle.view_laws.specs.HostEvents.{events_at, events_of, is_membership, taking}
use Rattle.view_laws.specs.Members.{state_of}
use Rattle.view_laws.specs.Votes.{HostsFollowTheirEvents, IsSentAmong, MembershipsVote, main_of, membership_in}
use Rattle.view_laws.proofs.votes.OtherBlocks.{master_none}
use Rattle.view_laws.proofs.votes.NoVotes.{IsNoVote, is_told, vote_told}
use Rattle.view_laws.proofs.votes.EachSignal.{IsSaid, Saying, behind_view, step_said}

-- P is of each vote that the membership sends at the signal, and of what is no vote
record IsOfVotes (P : Saying) (q : QmgrState) (x : Signal) : Type 0 where
  votes : (sent : Outgoing) → IsIn sent (qmgr_row q x).effects.sends → P (takes x ∷ []) sent
  none : (events : List Event) (sent : Outgoing) → IsNoVote sent → P events sent

row_by : (P : Saying) (p : MainPart) (x : Signal) → IsOfVotes P p.qmgr x → (b : BlockId)
    → Each (P (taking is_membership x (is_membership b))) (main_row p b x).effects.sends
unfolding main_row
row_by P p x of block.Qmgr = each_from (P (takes x ∷ [])) (qmgr_row p.qmgr x).effects.sends of.votes
row_by P p x of block.GcpMaster = each_map IsNoVote (P []) _ (of.none []) (master_none p.master x)
row_by P p x of _ = tt

row_said : (P : Saying) (parts : Parts) (q : QmgrState) (x : Signal) → membership_in parts ≡ Some q
    → IsOfVotes P q x → Each (P (taking is_membership x (is_membership x.to.block))) (parts_row parts x).effects.sends
row_said P (Main p) q x is of =
    let same : q ≡ p.qmgr = cc in
    row_by P p x (subst (λ r. IsOfVotes P r x) same of) x.to.block
row_said P (Shell p) q x is of = absurd cc
row_said P (Tc p) q x is of = absurd cc
row_said P (Ldm p) q x is of = absurd cc

-- a view is installed in the membership
pub entered_in : (parts : Parts) (q : QmgrState) (view : View) → membership_in parts ≡ Some q
    → membership_in (parts_entered parts view).state ≡ Some (qmgr_installed q view).state
entered_in (Main p) q view is =
    let same : p.qmgr ≡ q = cc in
    ap (λ (r : QmgrState). Some (qmgr_installed r view).state) same
entered_in (Shell p) q view is = absurd cc
entered_in (Tc p) q view is = absurd cc
entered_in (Ldm p) q view is = absurd cc

module _ (member : Member) (layout : Layout) (old : List Event) (x : Signal) where
  -- each vote is one of the membership among the events of the step
  abbrev SaysMember : Saying
  SaysMember = λ events sent. is_told sent.body ≡ true → IsSentAmong member layout events old sent

  -- also where a view is installed behind
  further : (events : List Event) (view : View) (sent : Outgoing) → IsSentAmong member layout events old sent
      → IsSentAmong member layout (installs view ∷ events) old sent
  further events view sent was = record {
    newer = installs view ∷ was.newer;
    older = was.older;
    taken = was.taken;
    is = ap (λ es. installs view ∷ es) was.is;
    there = was.there;
  }

  -- and before
  front_said : (parts : Parts) → membership_in parts ≡ Some (state_of member layout old)
      → IsSaid is_membership SaysMember parts x
  front_said parts is = record {
    row =
        row_said SaysMember parts (state_of member layout old) x is (record {
          votes = λ sent there vote. record { newer = []; older = []; taken = x; is = refl; there = there };
          none = λ events sent off vote. absurd (false≢true (sym off ∙ vote));
        });
    later = λ view sent was vote. further _ view sent (was vote);
    none = λ events sent off vote. absurd (false≢true (sym off ∙ vote));
  }

  behind_said : (parts : Parts) (view : View)
      → membership_in parts ≡ Some (state_of member layout (installs view ∷ old))
      → IsSaid is_membership (behind_view view SaysMember) parts x
  behind_said parts view is = record {
    row =
        row_said (behind_view view SaysMember) parts (state_of member layout (installs view ∷ old)) x is (record {
          votes = λ sent there vote.
              record { newer = []; older = installs view ∷ []; taken = x; is = refl; there = there };
          none = λ events sent off vote. absurd (false≢true (sym off ∙ vote));
        });
    later = λ next sent was vote. further _ next sent (was vote);
    none = λ events sent off vote. absurd (false≢true (sym off ∙ vote));
  }

-- where hosts follow their events
abbrev pub MembershipsTell : Type 0
MembershipsTell =
    (start : Start) → NobodyStarts start → (member : Member) (log : List HostStep) (e : HostStep)
    → IsIn member (made start)
    → Each (λ sent. is_told sent.body ≡ true → IsSentAmong member (first_layout start.shape)
    (events_at is_membership (main_of start member) (after start (main_of start member) log) e.step.taken)
    (events_of is_membership start (main_of start member) log) sent)
    (step_after start (main_of start member) log e).effects.sends

pub memberships_tell : HostsFollowTheirEvents → MembershipsTell
memberships_tell follow start nobody member log e there =
    let h = main_of start member in
    let s = after start h log in
    let x = e.step.taken in
    let old = events_of is_membership start h log in
    let layout = first_layout start.shape in
    let is : membership_in s.parts ≡ Some (state_of member layout old) = (follow start nobody member log there).state in
    step_said is_membership x (SaysMember member layout old x) s (front_said member layout old x s.parts is)
    (behind_said member layout old x (parts_entered s.parts x.view).state x.view
    (entered_in s.parts (state_of member layout old) x.view is))
    h

pub memberships_vote : HostsFollowTheirEvents → MembershipsVote
memberships_vote follow start nobody member log e there =
    each_map _ _ (step_after start (main_of start member) log e).effects.sends
    (λ sent tells vote. tells (vote_told sent.body vote)) (memberships_tell follow start nobody member log e there)
