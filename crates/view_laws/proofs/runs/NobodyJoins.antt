-- Where nobody asks to join, nobody joins by a proposal.
use Rattle.std.proofs.Common.{◌≡◌, ℕ, Bool, true, false, nat_lt, List, [], ◌∷◌, refl, sym, subst, ◌∙◌, ◌++◌}
use Rattle.std.specs.Prelude.{if◌then◌else◌, Option, None, Some}
use Rattle.frag_map.specs.Layout.{Layout}
use Rattle.run_theory.specs.Lists.{Each}
use Rattle.run_theory.proofs.Pasts.{each_append}
use Rattle.sig_core.specs.declared.member.Member.{Member}
use Rattle.sig_core.specs.declared.outcome.StopCause.{StopCause}
use Rattle.sig_core.specs.declared.outcome.StopCause.TheVariants.{Clock, Disk, Excluded, Killed, Memory, NoGroup}
use Rattle.sig_core.specs.declared.outcome.StopCause.TheVariants.{Sibling}
use Rattle.sig_core.specs.declared.signal.Body.{Body}
use Rattle.sig_core.specs.declared.signal.Body.TheVariants.{Joining}
use Rattle.sig_core.specs.declared.signal.joining.JoiningSignal.TheVariants.{StartReq}
use Rattle.sig_core.specs.declared.view.View.{View}
use Rattle.sig_core.specs.Step.{Step}
use Rattle.qmgr_block.specs.declared.known.Known.{Known}
use Rattle.qmgr_block.specs.declared.known.Proposal.{Proposal}
use Rattle.qmgr_block.specs.declared.promise.Promise.{Promise}
use Rattle.qmgr_block.specs.Decide.{with_unlike}
use Rattle.qmgr_block.specs.Install.{installed_row, installing, left_open}
use Rattle.qmgr_block.specs.Laws.{Event, installs, takes}
use Rattle.qmgr_block.specs.Promise.{confirmed_if, is_ldm, less, promising, with_absent}
use Rattle.qmgr_block.specs.Ring.{with_missing, with_round}
use Rattle.qmgr_block.specs.State.{QmgrState}
use Rattle.qmgr_block.specs.Suspects.{with_closing, with_suspects}
use Rattle.view_laws.specs.HostEvents.{taken_in}
use Rattle.view_laws.specs.Members as members
use Rattle.view_laws.specs.Members.{known_of, proposed_at, proposed_of, is_new, state_of}
use Rattle.view_laws.specs.Sets.{joining}
use Rattle.sig_core.specs.declared.outs.Outgoing.{Outgoing}
use Rattle.sig_core.specs.declared.signal.Signal.{Signal}
use Rattle.qmgr_block.specs.Decide.{stop_by}
use Rattle.qmgr_block.specs.Promise.{fences, refusal_of, waiting_promise}
use Rattle.qmgr_block.specs.Qmgr.{qmgr_row}
use Rattle.qmgr_block.specs.Ring.{heartbeat_to}
use Rattle.qmgr_block.specs.State.{beside, sent_before}
use Rattle.qmgr_block.proofs.Outcomes.{ToldForms, qmgr_outcomes}
use Rattle.view_laws.proofs.ballots.NewProposals.{change_joins}
use Rattle.view_laws.proofs.memberships.RowsAlike.{absent_like, closing_like, missed_like, promised_like, unlike_like}
use Rattle.view_laws.proofs.memberships.RowChanges.{closed_like, suspects_like}

-- nobody joins by the outstanding proposal
abbrev pub NoneJoins : Option Proposal → Type 0
NoneJoins None = Unit {0}
NoneJoins (Some p) = p.joining ≡ None

-- and nobody does after a step where nobody did before
abbrev Stays : Known → Known → Type 0
Stays k l = NoneJoins k.outstanding → NoneJoins l.outstanding

stays_same : {before now : Option Proposal} → now ≡ before → NoneJoins before → NoneJoins now
stays_same same none = subst NoneJoins (sym same) none

-- nobody asks to join
abbrev pub IsNoStart : Body → Type 0
IsNoStart (Joining (StartReq member own)) = ⊥
IsNoStart body = Unit {0}

module _ (s : QmgrState) (x : Signal) (plain : IsNoStart x.body) where
  abbrev k : Known
  k = s.known

  abbrev Ends : Step QmgrState → Type 0
  Ends step = Stays k step.state.known

  stays_all : Stays k k
  stays_all none = none

  -- where suspects are told nobody joins
  told_stays : (l : Known) (promises : List Promise) (front : List Outgoing) → l.outstanding ≡ k.outstanding
      → ToldForms l (λ step. Ends (beside promises (sent_before front step)))
  told_stays l promises front same = record {
    rests = stays_same same;
    proposes = λ lost joined own room is none. refl;
    tells = λ member joined other is. stays_same same;
  }

  told_only : (l : Known) → l.outstanding ≡ k.outstanding → ToldForms l (λ step. Ends (beside s.promises step))
  told_only l same = told_stays l s.promises [] same

  stop_stays : (cause : StopCause) → Ends (beside s.promises (stop_by k cause))
  stop_stays (NoGroup group) = stays_all
  stop_stays (Excluded number) = stays_all
  stop_stays Killed = stays_all
  stop_stays Memory = stays_all
  stop_stays Clock = stays_all
  stop_stays (Disk count) = stays_all
  stop_stays (Sibling host) = stays_all

  fence_stays : (at : ℕ) (promise : Promise) (all : Bool) → Ends (confirmed_if s at promise all)
  fence_stays at promise true = stays_all
  fence_stays at promise false = stays_all

  -- who asks to join doesn't ask here
  asks_none : (member : Member) (own : Option ℕ) → x.body ≡ Joining (StartReq member own) → ⊥
  asks_none member own is = subst IsNoStart is plain

  row_stays : Ends (qmgr_row s x)
  row_stays =
      qmgr_outcomes s x Ends (record {
        rests = λ off. stays_all;
        rounds = λ next before is behind front.
            told_stays (with_missing (with_round k) before) s.promises (heartbeat_to next ∷ [])
            (missed_like k before).outstanding;
        beats = λ before is front same. stays_all;
        reports = λ suspects is. told_only (with_suspects k suspects) (suspects_like k suspects).outstanding;
        closes = λ cause is other. told_only (with_closing k x.member) (closing_like k x.member).outstanding;
        gone = λ member is other. told_only (with_closing k member) (closing_like k member).outstanding;
        works = λ at is own some. told_only k refl;
        promises = λ set is may.
            told_stays (promising (with_absent k set) set) (s.promises ++ waiting_promise set x.member.node ∷ [])
            (fences k.me.node set) (promised_like k set).outstanding;
        refuses = λ set is may.
            told_stays (with_absent k set) s.promises (refusal_of k x.member.node ∷ []) (absent_like k set).outstanding;
        unfenced = λ is. stays_all;
        fenced = λ at promise all is place there up. fence_stays at (less (is_ldm x.from.0) promise) all;
        hears = λ p number is stands awaited. record {
          awaits = λ member members some none. subst NoneJoins stands none;
          settles = λ last free none. subst NoneJoins stands none;
          asks = λ last free none. subst NoneJoins stands none;
        };
        granted = λ p number is stands may. stays_all;
        refused = λ p number members is stands asked. stays_all;
        unlike = λ p promised is stands among.
            told_only (with_unlike k p.view promised) (unlike_like k p.view promised).outstanding;
        excluded = λ p promised is stands among. stays_all;
        stops = λ cause is. stop_stays cause;
        is_full = λ member own is full. stays_all;
        has_been = λ member own is outside settled seen. stays_all;
        joins = λ member own lost is no_full outside settled unseen may lacks. absurd (asks_none member own is);
        promotes = λ member lost is may lacks none. refl;
        orders = λ at is own oldest low. stays_all;
      })

-- an installation
stays_left : (view : View) (outstanding : Option Proposal) → NoneJoins outstanding
    → NoneJoins (left_open view outstanding)
stays_left view None none = tt
stays_left view (Some p) none = by (nat_lt view.number p.view.number)
  where
    by : (above : Bool) → NoneJoins (if above then Some p else None)
    by true = none
    by false = tt

stays_installed : (k : Known) (view : View) → Stays k (installed_row k view).state
unfolding installed_row installing
stays_installed k view none = subst NoneJoins (sym (closed_like _).outstanding) (stays_left view k.outstanding none)

-- along events by which nobody asks to join
pub none_joins : (me : Member) (layout : Layout) (events : List Event) → Each (λ x. IsNoStart x.body) (taken_in events)
    → NoneJoins (known_of me layout events).outstanding
none_joins me layout [] plain = tt
none_joins me layout (takes x ∷ events) plain =
    row_stays (state_of me layout events) x plain.0
    (none_joins me layout events plain.1)
none_joins me layout (installs view ∷ events) plain =
    stays_installed (known_of me layout events) view (none_joins me layout events plain)

entry_joins : (k : Known) (outstanding : Option Proposal) → NoneJoins outstanding
    → Each (λ p. joining p.change ≡ None) (proposed_at k outstanding)
entry_joins k None none = tt
entry_joins k (Some p) none = by (is_new k.proposed p)
  where
    by : (b : Bool) → Each (λ p. joining p.change ≡ None) (members.proposed_if k.layout.view p b)
    by true = (change_joins k.layout.view p.view p.joining ∙ none, tt)
    by false = tt

fewer : (event : Event) (events : List Event) → Each (λ x. IsNoStart x.body) (taken_in (event ∷ events))
    → Each (λ x. IsNoStart x.body) (taken_in events)
fewer (takes x) events plain = plain.1
fewer (installs view) events plain = plain

-- nobody joins by any proposal
pub no_joins : (me : Member) (layout : Layout) (events : List Event) → Each (λ x. IsNoStart x.body) (taken_in events)
    → Each (λ p. joining p.change ≡ None) (proposed_of me layout events)
no_joins me layout [] plain = tt
no_joins me layout (event ∷ events) plain =
    each_append _ (proposed_at (known_of me layout events) (known_of me layout (event ∷ events)).outstanding)
    (proposed_of me layout events)
    (entry_joins (known_of me layout events) (known_of me layout (event ∷ events)).outstanding
    (none_joins me layout (event ∷ events) plain))
    (no_joins me layout events (fewer event events plain))
