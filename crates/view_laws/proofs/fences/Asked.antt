-- A membership asks its blocks for a fence where it promises a set that it is asked for, and nowhere else.
use Rattle.std.proofs.Common.{◌≡◌, ◌⊎◌, ◌||◌, ℕ, Bool, true, false, List, [], ◌∷◌, ◌++◌, refl, inl, inr, filter, cond}
use Rattle.std.proofs.Common.{ap, sym, subst, ◌∙◌}
use Rattle.std.specs.Prelude.{if◌then◌else◌, Option, None, Some}
use Rattle.frag_map.specs.Groups.{lost_group}
use Rattle.run_theory.specs.Lists.{Each, IsIn}
use Rattle.run_theory.proofs.EachSent.{each_mapped}
use Rattle.run_theory.proofs.Pasts.{each_map, each_from}
use Rattle.sig_core.specs.declared.member.Member.{Member}
use Rattle.sig_core.specs.declared.outs.Outgoing.{Outgoing}
use Rattle.sig_core.specs.declared.signal.Body.{Body}
use Rattle.sig_core.specs.declared.signal.Body.TheVariants.{Membership}
use Rattle.sig_core.specs.declared.signal.membership.MembershipSignal.TheVariants.{PrepFailReq}
use Rattle.sig_core.specs.declared.signal.Signal.{Signal}
use Rattle.sig_core.specs.declared.view.View.{View}
use Rattle.sig_core.specs.Step.{Step}
use Rattle.qmgr_block.specs.declared.known.Known.{Known}
use Rattle.qmgr_block.specs.Promise.{fences, may_promise, promise_by, promise_row, promising, with_absent}
use Rattle.qmgr_block.specs.Propose.{has_number, proposal_sends, propose, proposed_if, proposed_view, remaining_view}
use Rattle.qmgr_block.specs.Propose.{request_of}
use Rattle.qmgr_block.specs.Qmgr.{qmgr_row, qmgr_table}
use Rattle.qmgr_block.specs.Sets.{members_of}
use Rattle.qmgr_block.specs.State.{QmgrState}
use Rattle.qmgr_block.specs.Suspects.{has_more, president, presides, told, told_by, told_if}
use Rattle.qmgr_block.proofs.Walk.{qmgr_each}
use Rattle.sig_core.specs.declared.mark.Mark.{Mark}
use Rattle.view_laws.proofs.memberships.WaitingPromises.{row_sets}
use Rattle.view_laws.proofs.votes.NoVotes.{is_confirming, is_fencing, is_of_fence}

-- it is of no fence
abbrev pub IsOff : Outgoing → Type 0
IsOff sent = is_of_fence sent.body ≡ false

abbrev AreOff : List Outgoing → Type 0
AreOff sends = Each IsOff sends

abbrev Off : {S : Type 0} → Step S → Type 0
Off step = AreOff step.effects.sends

-- proposals
proposal_off : (set : View) (lost : Option ℕ) → AreOff (proposal_sends set lost)
proposal_off set None = each_mapped IsOff (request_of set) (members_of set) (λ member. refl)
proposal_off set (Some group) = (refl, tt)

proposed_off : (k : Known) (set : View) (joining : Option Member) → Off (proposed_view k set joining)
unfolding proposed_view
proposed_off k set joining = proposal_off set (lost_group k.layout.shape set)

proposed_if_off : (k : Known) (set : View) (joining : Option Member) (may : Bool) → Off (proposed_if k set joining may)
proposed_if_off k set joining true = proposed_off k set joining
proposed_if_off k set joining false = tt

told_by_off : (k : Known) (joined own : Bool) (president : Option Member) → Off (told_by k joined own president)
unfolding propose
told_by_off k false own president = tt
told_by_off k true true president = proposed_if_off k (remaining_view k) None (has_number k)
told_by_off k true false None = tt
told_by_off k true false (Some member) = (refl, tt)

told_off : (k : Known) (changed : Bool) → Off (told_if k changed)
unfolding told
told_off k true = told_by_off k k.has_joined (presides k) (president k)
told_off k false = tt

module _ (s : QmgrState) where
  -- It is one of the requests for the fence of a set that is promised at this signal
  pub record IsFenceOf (body : Body) (now : QmgrState) (sent : Outgoing) : Type 0 where
    pub set : View
    pub asks : body ≡ Membership (PrepFailReq set)
    pub may : may_promise s.known set ≡ true
    pub promised : now.known.promised ≡ set
    pub there : IsIn sent (fences s.known.me.node set)

  abbrev pub Fences : Body → Step QmgrState → Type 0
  Fences body step = Each (λ sent. IsOff sent ⊎ IsFenceOf body step.state sent) step.effects.sends

  abbrev AnyMark : Mark → Type 0
  AnyMark mark = Unit {0}

  module _ (x : Signal) where
    pub row_fences : Fences x.body (qmgr_row s x)
    row_fences =
        (qmgr_each s x (λ sent. IsOff sent ⊎ IsFenceOf x.body (qmgr_row s x).state sent) AnyMark (record {
          beats = λ next is behind. inl refl;
          tells = λ member suspects. inl refl;
          requests = λ set member there. inl refl;
          questions = λ number members joining. inl refl;
          fences = λ set is may.
              let own : (sent : Outgoing) → IsIn sent (fences s.known.me.node set)
              → IsOff sent ⊎ IsFenceOf x.body (qmgr_row s x).state sent =
              λ sent there.
              inr (record {
                set = set;
                asks = is;
                may = may;
                promised = row_sets s x set is may;
                there = there;
              }) in
              each_from _ (fences s.known.me.node set) own;
          refuses = λ set is may. inl refl;
          confirms = λ at promise is place there up. (inl refl, tt);
          settles = λ p stands. tt;
          orders_stop = λ p member cause stands. inl refl;
          goes_down = λ group is. tt;
          stops = λ cause is. tt;
          is_full = λ member own is. inl refl;
          has_been = λ member own is. inl refl;
          orders = λ at is own oldest. record {
            commits = λ member there. inl refl;
            takeover = inl refl;
            master = inl refl;
            client = inl refl;
            copies = λ member there. inl refl;
            works = λ some. inl refl;
            goes_on = λ left. inl refl;
          };
        })).0

-- those are all that it asks for, in this order
abbrev pub asked_fences : Known → Body → List Outgoing
asked_fences k (Membership (PrepFailReq set)) = if may_promise k set then fences k.me.node set else []
asked_fences k body = []

abbrev pub fencing : List Outgoing → List Outgoing
fencing sends = filter (λ (sent : Outgoing). is_fencing sent.body) sends

-- what is of no fence asks for none
pub unasking : (body : Body) → is_of_fence body ≡ false → is_fencing body ≡ false
unasking body off = by (is_fencing body) off
  where
    by : (b : Bool) → (b || is_confirming body) ≡ false → b ≡ false
    by true off = off
    by false off = refl

pub off_none : (sends : List Outgoing) → AreOff sends → fencing sends ≡ []
off_none [] all = refl
off_none (sent ∷ sends) all =
    subst (λ b. cond b (sent ∷ fencing sends) (fencing sends) ≡ []) (sym (unasking sent.body all.0))
    (off_none sends all.1)

module _ (s : QmgrState) where
  promise_by_only : (to : ℕ) (set : View) (may : Bool)
      → fencing (promise_by s to set may).effects.sends ≡ (if may then fences s.known.me.node set else [])
  promise_by_only to set true =
      let l = promising (with_absent s.known set) set in
      let told_none : fencing (told_if l (has_more s.known l)).effects.sends ≡ [] =
      off_none (told_if l (has_more s.known l)).effects.sends (told_off l (has_more s.known l)) in
      ap (λ sends. fences s.known.me.node set ++ sends) told_none
  promise_by_only to set false =
      let l = with_absent s.known set in
      off_none (told_if l (has_more s.known l)).effects.sends (told_off l (has_more s.known l))

  promise_only : (to : ℕ) (set : View)
      → fencing (promise_row s to set).effects.sends ≡ asked_fences s.known (Membership (PrepFailReq set))
  unfolding promise_row
  promise_only to set = promise_by_only to set (may_promise s.known set)

  pub row_only : (x : Signal) → fencing (qmgr_row s x).effects.sends ≡ asked_fences s.known x.body
  row_only x = by x.body refl
    where
      by : (body : Body) → x.body ≡ body → fencing (qmgr_row s x).effects.sends ≡ asked_fences s.known x.body
      by (Membership (PrepFailReq set)) is =
          subst
          (λ body. fencing (qmgr_table s x.from.0 x.member x.view.number body).effects.sends
          ≡ asked_fences s.known body)
          (sym is) (promise_only x.member.node set)
      by body is =
          off_none (qmgr_row s x).effects.sends
          (each_map (λ sent. IsOff sent ⊎ IsFenceOf s x.body (qmgr_row s x).state sent) IsOff
          (qmgr_row s x).effects.sends off (row_fences s x))
          ∙ sym (ap (asked_fences s.known) is)
        where
          off : (sent : Outgoing) → IsOff sent ⊎ IsFenceOf s x.body (qmgr_row s x).state sent → IsOff sent
          off sent (inl is_off) = is_off
          off sent (inr asked) =
              let differ : body ≡ Membership (PrepFailReq asked.set) = sym is ∙ asked.asks in absurd cc
