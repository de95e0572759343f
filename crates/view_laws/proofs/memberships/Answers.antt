-- What a membership sends of votes: it confirms promises to who asked for them, and asks the members of its proposals.
use Rattle.std.proofs.Common.{◌≡◌, ◌⊎◌, ℕ, Bool, true, false, List, [], ◌∷◌, ◌++◌, map, refl, ap, sym, subst, ◌∙◌, inl}
use Rattle.std.proofs.Common.{inr}
use Rattle.std.proofs.lemmas.Bool.{true≢false}
use Rattle.std.specs.Prelude.{Option, None, Some}
use Rattle.frag_map.specs.Layout.{Layout}
use Rattle.run_theory.specs.Lists.{Each, IsIn}
use Rattle.run_theory.proofs.Pasts.{each_from, each_in, each_map}
use Rattle.sig_core.specs.declared.member.Member.{Member}
use Rattle.sig_core.specs.declared.outs.Outgoing.{Outgoing}
use Rattle.sig_core.specs.declared.signal.Body.{Body}
use Rattle.sig_core.specs.declared.signal.Body.TheVariants.{Joining, Membership}
use Rattle.sig_core.specs.declared.signal.joining.JoiningSignal.TheVariants.{PromoteReq, StartReq}
use Rattle.sig_core.specs.declared.signal.membership.MembershipSignal.TheVariants.{PrepFailConf, PrepFailReq}
use Rattle.sig_core.specs.declared.signal.Signal.{Signal}
use Rattle.sig_core.specs.declared.view.View.{View}
use Rattle.sig_core.specs.Step.{Effects}
use Rattle.qmgr_block.specs.declared.known.Proposal.{Proposal}
use Rattle.qmgr_block.specs.declared.promise.Promise.{Promise}
use Rattle.qmgr_block.specs.Decide.{confirmed_all, confirmed_one, heard, needs_no_grant}
use Rattle.qmgr_block.specs.Laws.{Event, takes}
use Rattle.qmgr_block.specs.Propose.{proposal_by, proposal_sends, request_of}
use Rattle.qmgr_block.specs.Qmgr.{qmgr_row}
use Rattle.qmgr_block.specs.Sets.{members_of}
use Rattle.qmgr_block.specs.State.{QmgrState}
use Rattle.view_laws.specs.Heard.{IsRightlySent, MembershipsAnswerRightly}
use Rattle.view_laws.specs.Members.{confirmed_by, confirmed_of, proposed_of, state_of}
use Rattle.view_laws.specs.Sets.{all_of}
use Rattle.view_laws.specs.Votes.{is_vote}
use Rattle.view_laws.proofs.ballots.NewProposals.{entry_of, new_there}
use Rattle.view_laws.proofs.memberships.Outstanding.{Answers, Does, IsPlain, Proposes, Waits, does_answer, does_hear}
use Rattle.view_laws.proofs.memberships.Outstanding.{does_propose, does_rest, does_settle, row_does}
use Rattle.view_laws.proofs.memberships.WaitingPromises.{IsPending, pending, pending_more}
use Rattle.view_laws.proofs.memberships.SetTests.{take_in}

-- who is among the members of a view is of it
pub members_in : (set : View) (member : Member) → IsIn member (members_of set) → IsIn member (all_of set)
unfolding members_of
members_in set member is = take_in 8 (all_of set) member is

-- what is so of one of the promises that wait
waiting_is : (W : ℕ → ℕ → Type 0) (promises : List Promise) (number to : ℕ) → Waits promises number to
    → Each (λ promise. W promise.number promise.to) promises → W number to
waiting_is W [] number to waits all = absurd waits
waiting_is W (promise ∷ promises) number to (inl same) all =
    subst (λ (n : ℕ). W n to) (sym same.0) (subst (W promise.number) (sym same.1) all.0)
waiting_is W (promise ∷ promises) number to (inr waits) all = waiting_is W promises number to waits all.1

-- at a signal
module _ (me : Member) (layout : Layout) (events : List Event) (x : Signal) where
  abbrev IsRight : Outgoing → Type 0
  IsRight sent = IsRightlySent me layout (takes x ∷ events) sent sent.body

  plain_body : (sent : Outgoing) (body : Body) → is_vote body ≡ false
      → IsRightlySent me layout (takes x ∷ events) sent body
  plain_body sent (Membership (PrepFailConf number)) e = absurd (true≢false e)
  plain_body sent (Membership (PrepFailReq set)) e = absurd (true≢false e)
  plain_body sent (Joining (StartReq member own)) e = absurd (true≢false e)
  plain_body sent (Joining (PromoteReq member)) e = absurd (true≢false e)
  plain_body sent body e = tt

  -- a proposal is sent to its members
  requests_right : (base set : View) (joining : Option Member) (members : List Member)
      → IsIn (entry_of base set joining) (proposed_of me layout (takes x ∷ events))
      → Each (λ member. IsIn member (all_of set)) members → Each IsRight (map (request_of set) members)
  requests_right base set joining [] there all = tt
  requests_right base set joining (member ∷ members) there all = (
    (
      refl,
      record {
        proposal = entry_of base set joining;
        there = there;
        is = refl;
        member = member;
        of = all.0;
        node_is = refl;
      },
    ),
    requests_right base set joining members there all.1,
  )

  proposal_right : (base set : View) (joining : Option Member) (lost : Option ℕ)
      → (lost ≡ None → IsIn (entry_of base set joining) (proposed_of me layout (takes x ∷ events)))
      → Each IsRight (proposal_sends set lost)
  proposal_right base set joining None there =
      requests_right base set joining (members_of set) (there refl) (each_from _ (members_of set) (members_in set))
  proposal_right base set joining (Some group) there = (tt, tt)

  abbrev s : QmgrState
  s = state_of me layout events

  proposes_right : Proposes s.known (qmgr_row s x).state.known (qmgr_row s x).effects
      → Each IsRight (qmgr_row s x).effects.sends
  proposes_right one =
      each_map _ IsRight (qmgr_row s x).effects.sends (λ sent is. by sent is) one.sends
    where
      there : one.lost ≡ None
          → IsIn (entry_of s.known.layout.view one.set one.joining) (proposed_of me layout (takes x ∷ events))
      there e =
          new_there s.known (proposed_of me layout events) _ one.set one.joining
          (one.outstanding ∙ ap (λ (lost : Option ℕ). Some (proposal_by one.set one.joining lost)) e) one.above

      by : (sent : Outgoing) → IsPlain sent ⊎ IsIn sent (proposal_sends one.set one.lost) → IsRight sent
      by sent (inl plain) = plain_body sent sent.body plain
      by sent (inr is) =
          each_in IsRight sent (proposal_sends one.set one.lost)
          (proposal_right s.known.layout.view one.set one.joining one.lost there) is

  -- the last confirmation asks nothing of members
  confirmed_all_right : (p : Proposal) (free : Bool) → Each IsRight (confirmed_all s.known p free).effects.sends
  confirmed_all_right p true = tt
  confirmed_all_right p false = (tt, tt)

  confirmed_right : (p : Proposal) (awaited : List Member)
      → Each IsRight (confirmed_one s.known p awaited).effects.sends
  confirmed_right p [] = confirmed_all_right p (needs_no_grant s.known p)
  confirmed_right p (member ∷ members) = tt

  answer_right : Answers s (qmgr_row s x).state.known (qmgr_row s x).effects → Each IsRight (qmgr_row s x).effects.sends
  answer_right one =
      let before =
      waiting_is (IsPending me layout events) s.promises one.number one.to one.waited (pending me layout events) in
      let now = pending_more me layout (takes x) events one.number one.to before in
      subst (λ (effects : Effects). Each IsRight effects.sends) (sym one.effects_are) (
        (
          refl,
          record {
            set = now.set;
            number_is = now.number_is;
            promised = now.promised;
            confirmed =
                subst (λ (y : Effects). IsIn one.number (confirmed_by y.marks ++ confirmed_of me layout events))
                (sym one.effects_are) (inl refl);
            request = now.request;
            taken = now.taken;
            asks = now.asks;
            by = now.by;
          },
        ),
        tt,
      )

  right_by : Does s x.member x.body (qmgr_row s x).state.known (qmgr_row s x).effects
      → Each IsRight (qmgr_row s x).effects.sends
  right_by (does_rest rests) =
      each_map _ IsRight (qmgr_row s x).effects.sends (λ sent plain. plain_body sent sent.body plain) rests.sends
  right_by (does_propose one) = proposes_right one
  right_by (does_hear hears) =
      subst (λ (effects : Effects). Each IsRight effects.sends) (sym hears.effects_are)
      (confirmed_right (heard hears.p x.member) (heard hears.p x.member).awaited)
  right_by (does_settle settles) =
      subst (λ (effects : Effects). Each IsRight effects.sends) (sym settles.effects_are) tt
  right_by (does_answer one) = answer_right one

pub answer_rightly : MembershipsAnswerRightly
answer_rightly me layout events x orderly =
    right_by me layout events x
    (row_does (state_of me layout events) x)
