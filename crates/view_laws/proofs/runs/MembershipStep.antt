-- A membership stays sound in a step of its host that takes a true signal.
use Rattle.std.proofs.Common.{◌≡◌, ◌⊎◌, ℕ, List, [], ◌∷◌, ◌++◌, append_assoc, refl, ap, sym, subst, ◌∙◌, inl, inr}
use Rattle.std.specs.Prelude.{Option}
use Rattle.frag_map.specs.Layout.{Layout, first_layout}
use Rattle.frag_map.specs.Shape.{IsShape}
use Rattle.run_theory.specs.Lists.{Each, IsIn, IsPast}
use Rattle.run_theory.proofs.Pasts.{each_in, each_map, each_past, in_past, past_less}
use Rattle.sig_core.specs.declared.mark.Mark.TheVariants.{Installed}
use Rattle.sig_core.specs.declared.member.Member.{Member}
use Rattle.sig_core.specs.declared.signal.Body.{Body}
use Rattle.sig_core.specs.declared.signal.Body.TheVariants.{Membership}
use Rattle.sig_core.specs.declared.signal.membership.MembershipSignal.TheVariants.{ArbitConf}
use Rattle.sig_core.specs.declared.signal.Signal.{Signal}
use Rattle.sig_core.specs.declared.view.View.{View}
use Rattle.qmgr_block.specs.Laws.{Event, installs, takes}
use Rattle.world_core.specs.Start.{Start, made}
use Rattle.world_core.specs.Steps.{HostStep}
use Rattle.view_laws.specs.Ballots.{Ballots, HasPromised, IsBacked, IsGranted, NeedsNoGrant, Proposed}
use Rattle.view_laws.specs.Heard.{HasConfirmed, IsHeardOf, IsRightlySettled}
use Rattle.view_laws.specs.HostEvents.{taken_in}
use Rattle.view_laws.specs.Members.{effects_at, proposed_of, state_of}
use Rattle.view_laws.specs.Runs.{ballots_of, events_in}
use Rattle.view_laws.specs.Sets.{all_of}
use Rattle.view_laws.proofs.follow.Memberships.{MembershipSteps, TakesAs, leaves, settles, settles_on, taken_entering}
use Rattle.view_laws.proofs.follow.Memberships.{taken_plain, takes_it}
use Rattle.view_laws.proofs.memberships.Questions.{ask_rightly}
use Rattle.view_laws.proofs.runs.Growth.{in_flat, installed_past, proposed_past, taken_past}
use Rattle.view_laws.proofs.runs.OrderlyBallots.{orderly_events, own_proposal, proposal_same}
use Rattle.view_laws.proofs.runs.Sound.{IsGood, IsGrantedTo, IsHeard, IsOfMade, IsSoundMember, Says, proposed_in}

module _ (start : Start) (logs : ℕ → List HostStep) (is_shape : IsShape start.shape) where
  abbrev layout : Layout
  layout = first_layout start.shape

  abbrev ballots : Ballots
  ballots = ballots_of start logs

  -- what is sound is so in an older part too
  pub sound_past : (me : Member) (older newer : List Event) → IsPast older newer → IsSoundMember start logs me newer
      → IsSoundMember start logs me older
  sound_past me older newer past sound = record {
    taken = each_past _ (taken_past past) sound.taken;
    installed = each_past _ (installed_past layout past) sound.installed;
  }

  module _ (me : Member) (made_me : IsIn me (made start)) (older : List Event)
      (past : IsPast older (events_in start logs me))
    where
      in_all : (p : Proposed) → IsIn p (proposed_of me layout older) → IsIn p (proposed_in start logs me)
      in_all p there = in_past p (proposed_past me layout past) there

      -- a member that has confirmed a number has promised the proposal of the number
      confirmed_promised : (taken : List Signal) → Each (λ x. Says start logs me x x.body) taken → (p : Proposed)
          → IsIn p (proposed_of me layout older) → (member : Member) → HasConfirmed taken p.set.number member
          → HasPromised ballots p.set member
      confirmed_promised taken says p there member has =
          let body : Says start logs me has.signal has.signal.body = each_in _ has.signal taken says has.there in
          let heard : IsHeard start logs me has.signal.member p.set.number =
          subst (λ (body : Body). Says start logs me has.signal body) has.says body in
          let same : heard.proposal ≡ p =
          proposal_same start logs is_shape me (events_in start logs me) heard.proposal p heard.there (in_all p there)
          heard.number_is in
          subst (HasPromised ballots p.set) has.by
          (subst (λ (q : Proposed). HasPromised ballots q.set has.signal.member) same heard.promised)

      -- so a set that was heard of is backed
      pub heard_backed : (taken : List Signal) → Each (λ x. Says start logs me x x.body) taken → (set : View)
          (joins : Option Member) → IsHeardOf (proposed_of me layout older) taken [] set joins → IsBacked ballots set
      heard_backed taken says set joins of =
          each_map _ (HasPromised ballots set) (all_of set) (λ member. by member) of.heard
        where
          by : (member : Member) → IsIn member [] ⊎ HasConfirmed taken set.number member
              → HasPromised ballots set member
          by member (inl none) = absurd none
          by member (inr has) =
              subst (λ (s : View). HasPromised ballots s member) of.is
              (confirmed_promised taken says of.proposal of.there member
              (subst (λ (s : View). HasConfirmed taken s.number member) (sym of.is) has))

      -- a view that is settled on is chosen
      settled_good : (x : Signal) (view : View) → IsSoundMember start logs me older → Says start logs me x x.body
          → IsIn (Installed view) (effects_at (state_of me layout older) (takes x)).marks
          → IsGood start logs view
      settled_good x view sound says marked =
          let settled : IsRightlySettled layout (proposed_of me layout older) (x ∷ taken_in older) x view =
          (ask_rightly me layout older (orderly_events start logs is_shape me older sound)).settled x view marked in
          let p = settled.of.proposal in
          let own = own_proposal start logs is_shape me older sound p settled.of.there in
          record {
            chosen = inr (record {
              proposal = p;
              there =
                  in_flat (λ me. proposed_in start logs me) (made start) me p made_me (in_all p settled.of.there);
              is = sym settled.of.is;
              backed = heard_backed (x ∷ taken_in older) (says, sound.taken) view settled.joins settled.of;
              free = free settled settled.free;
            });
            of = subst (IsOfMade start) settled.of.is own.of;
          }
        where
          granted : (settled : IsRightlySettled layout (proposed_of me layout older) (x ∷ taken_in older) x view)
              → IsGrantedTo start logs me view.number → IsGranted ballots view
          granted settled one =
              let p = settled.of.proposal in
              let number : one.proposal.set.number ≡ p.set.number =
              one.number_is ∙ ap (λ (v : View). v.number) (sym settled.of.is) in
              let same : one.proposal ≡ p =
              proposal_same start logs is_shape me (events_in start logs me) one.proposal p one.there
              (in_all p settled.of.there) number in
              record {
                grant = one.grant;
                there = one.granted;
                number = one.is;
                members =
                    sym one.members ∙ ap (λ (q : Proposed). all_of q.set) same ∙ ap all_of settled.of.is;
              }

          free : (settled : IsRightlySettled layout (proposed_of me layout older) (x ∷ taken_in older) x view)
              → NeedsNoGrant start.shape settled.of.proposal.change view ⊎ (x.body ≡ Membership (ArbitConf view.number))
              → NeedsNoGrant start.shape settled.of.proposal.change view ⊎ IsGranted ballots view
          free settled (inl none) = inl none
          free settled (inr asked) =
              inr (granted settled (subst (λ (body : Body). Says start logs me x body) asked says))

  -- a membership that takes a true signal
  module _ (me : Member) (made_me : IsIn me (made start)) (x : Signal) (header : IsGood start logs x.view)
      (says : Says start logs me x x.body)
    where
      -- the view of the header may be installed
      entered : (older : List Event) → IsSoundMember start logs me older
          → IsSoundMember start logs me (installs x.view ∷ older)
      entered older sound = record { taken = sound.taken; installed = (header, sound.installed) }

      taken : (older : List Event) → IsSoundMember start logs me older → IsSoundMember start logs me (takes x ∷ older)
      taken older sound = record { taken = (says, sound.taken); installed = sound.installed }

      -- and then the signal is taken, and the view that is settled on is installed
      takes_sound : (older new : List Event) → IsPast (new ++ older) (events_in start logs me)
          → IsSoundMember start logs me older → TakesAs (state_of me layout older) x new
          → IsSoundMember start logs me (new ++ older)
      takes_sound older new past sound (leaves is) =
          subst (λ new. IsSoundMember start logs me (new ++ older)) (sym is) sound
      takes_sound older new past sound (takes_it to none is) =
          subst (λ new. IsSoundMember start logs me (new ++ older)) (sym is) (taken older sound)
      takes_sound older new past sound (settles view to e is) =
          let before = past_less (takes x) (past_less (installs view)
          (subst (λ new. IsPast (new ++ older) (events_in start logs me)) is past)) in
          let settled = settles_on (state_of me layout older) x view e in
          let good =
          settled_good me made_me older before x view sound says
          (subst (IsIn (Installed view)) (sym settled.marks) (inl refl)) in
          subst (λ new. IsSoundMember start logs me (new ++ older)) (sym is)
          (record { taken = (says, sound.taken); installed = (good, sound.installed) })

      pub steps_sound : (old new : List Event) (view : View) → IsPast (new ++ old) (events_in start logs me)
          → IsSoundMember start logs me old → MembershipSteps (state_of me layout old) view x new
          → IsSoundMember start logs me (new ++ old)
      steps_sound old new view past sound (taken_plain taken) = takes_sound old new past sound taken
      steps_sound old new view past sound (taken_entering above later is taken) =
          let all : new ++ old ≡ later ++ installs x.view ∷ old =
          ap (λ es. es ++ old) is ∙ append_assoc later (installs x.view ∷ []) old in
          subst (IsSoundMember start logs me) (sym all)
          (takes_sound (installs x.view ∷ old) later (subst (λ es. IsPast es (events_in start logs me)) all past)
          (entered old sound) taken)
