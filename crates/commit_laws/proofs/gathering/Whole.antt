-- A takeover was told of all that members have when the last of them ends, since each told it in front of its end.
use Rattle.std.proofs.Common.{◌≡◌, ◌++◌, ◌∙◌, ℕ, Bool, true, false, List, [], ◌∷◌, inl, inr, refl, sym, ap, subst}
use Rattle.std.proofs.lemmas.List.{append_assoc}
use Rattle.std.specs.Prelude.{if◌then◌else◌, None, is_some}
use Rattle.run_theory.specs.Links.{IsClosing, IsGiven, is_from, sent, taken}
use Rattle.run_theory.specs.Lists.{Each, IsIn, IsPast}
use Rattle.run_theory.specs.Machine.{Machine}
use Rattle.run_theory.proofs.Pasts.{each_map}
use Rattle.run_theory.proofs.Runs.{given_taken, log_of-own, logs_of_run}
use Rattle.sig_core.specs.declared.member.Member.{Member}
use Rattle.sig_core.specs.declared.member.TxId.{TxId}
use Rattle.sig_core.specs.declared.signal.Body.TheVariants.{Host, Takeover}
use Rattle.sig_core.specs.declared.signal.host.HostSignal.TheVariants.{Closed}
use Rattle.sig_core.specs.declared.signal.takeover.TakeoverSignal.TheVariants.{LqhTransEnd}
use Rattle.takeover_block.specs.declared.gathered.Gathered.{Gathered}
use Rattle.takeover_block.specs.Keys.{has_key}
use Rattle.world_core.specs.Start.{Start}
use Rattle.world_core.specs.Steps.{Addressed, HostStep}
use Rattle.world_views.specs.Machine.{cause_in, machine}
use Rattle.view_laws.specs.Order.{sound_machine}
use Rattle.moment_laws.specs.Moments.{IsMoment, current, logs_of}
use Rattle.moment_laws.specs.Places.{ldm_of, tc_of}
use Rattle.request_laws.specs.Orphans.{IsOrphan}
use Rattle.commit_laws.specs.Gathering.{AllIsTold, EndsGathering, GatheringsAreWhole}
use Rattle.commit_laws.specs.Takeovers.{takeover_at}
use Rattle.commit_laws.specs.Telling.{AllHaveEnded, EndsComeBehind, HasEnded, IsAmong, IsGathered, TellingsAreGathered}
use Rattle.commit_laws.specs.Traces.{has_marker_at, record_at}

-- an entry of a list stands between those that are newer and those that are older
record Stands (y : Addressed) (ys : List Addressed) : Type 0 where
  newer : List Addressed
  older : List Addressed
  is : ys ≡ newer ++ y ∷ older

stands_in : (y : Addressed) (ys : List Addressed) → IsIn y ys → Stands y ys
stands_in y [] there = absurd there
stands_in y (x ∷ ys) (inl same) =
    record { newer = []; older = ys; is = ap (λ z. z ∷ ys) (sym same) }
stands_in y (x ∷ ys) (inr there) =
    let rest = stands_in y ys there in
    record { newer = x ∷ rest.newer; older = rest.older; is = ap (λ zs. x ∷ zs) rest.is }

in_behind : (y z : Addressed) (newer older : List Addressed) → IsIn z older → IsIn z (newer ++ y ∷ older)
in_behind y z [] older there = inr there
in_behind y z (x ∷ newer) older there = inr (in_behind y z newer older there)

-- what is older than an entry of a list with one more stands in the list
in_rest : (y z x : Addressed) (ys newer older : List Addressed) → x ∷ ys ≡ newer ++ y ∷ older → IsIn z older → IsIn z ys
in_rest y z x ys [] older is there =
    let rest : ys ≡ older = cc is in subst (IsIn z) (sym rest) there
in_rest y z x ys (n ∷ newer) older is there =
    let rest : ys ≡ newer ++ y ∷ older = cc is in subst (IsIn z) (sym rest) (in_behind y z newer older there)

module _ (behind : EndsComeBehind) (ended : AllHaveEnded) (gathered_all : TellingsAreGathered) (start : Start)
    (all : ℕ → List HostStep) (e : HostStep) (es : List HostStep) (moment : IsMoment start all (e ∷ es))
    (member : Member)
    (closing : EndsGathering start e es member)
  where
    abbrev pub old : ℕ → List HostStep
    old = logs_of start es

    abbrev pub new : ℕ → List HostStep
    new = logs_of start (e ∷ es)

    abbrev pub n : Machine HostStep Addressed
    n = sound_machine start

    abbrev pub t : ℕ
    t = tc_of start member

    abbrev gathered : List Gathered
    gathered = (takeover_at start (logs_of start es) member).gathered

    all_gathered : IsGathered start old member
    all_gathered = gathered_all start all e es moment member closing

    module _ (one : Member) (full : IsIn one (current start (logs_of start es)).full) where
      abbrev pub l : ℕ
      l = ldm_of start one

      pub has_ended : HasEnded start e es member one
      has_ended = ended start all e es moment member closing one full

      abbrev pub y : Addressed
      y = has_ended.signal

      -- its link gave what was sent
      given : IsGiven n l t (old l) (taken n l (new t))
      given = given_taken n es e l t moment.run.1 ((logs_of_run n es moment.run.0).linked l t)

      -- what stood in front of its end was sent in front of that, and was taken before
      pub record Fronted : Type 0 where
        pub older : List Addressed
        pub newer : List Addressed
        pub is : sent n l t (old l) ≡ newer ++ y ∷ older
        pub before : (z : Addressed) → IsIn z older → IsIn z (taken n l (old t))

      -- all that was taken behind the event, but for the newest, was taken before
      older_taken : (newer older : List Addressed) → taken n l (new t) ≡ newer ++ y ∷ older → (z : Addressed)
          → IsIn z older → IsIn z (taken n l (old t))
      older_taken newer older is z there = by (is_from n l e) refl
        where
          own : taken n l (new t) ≡ (if is_from n l e then n.signal e ∷ taken n l (old t) else taken n l (old t))
          own = ap (taken n l) (log_of-own (machine start) e es t closing.host_is)

          by : (b : Bool) → is_from n l e ≡ b → IsIn z (taken n l (old t))
          by true from =
              in_rest y z (n.signal e) (taken n l (old t)) newer older
              (sym (own ∙ ap (λ b. if b then n.signal e ∷ taken n l (old t) else taken n l (old t)) from) ∙ is) there
          by false from =
              subst (IsIn z)
              (sym is ∙ (own ∙ ap (λ b. if b then n.signal e ∷ taken n l (old t) else taken n l (old t)) from))
              (in_behind y z newer older there)

      of_past : (ys front : List Addressed) → taken n l (new t) ≡ front ++ ys → IsPast ys (sent n l t (old l))
          → IsIn y ys
          → Fronted
      of_past ys front is past there =
          let stands = stands_in y ys there in
          record {
            older = stands.older;
            newer = past.newer ++ stands.newer;
            is = past.is ∙ (ap (λ zs. past.newer ++ zs) stands.is
                ∙ sym (append_assoc past.newer stands.newer (y ∷ stands.older)));
            before =
                older_taken (front ++ stands.newer) stands.older
                (is ∙ (ap (λ zs. front ++ zs) stands.is ∙ sym (append_assoc front stands.newer (y ∷ stands.older))));
          }

      not_closing : (log : List HostStep) (f : HostStep) → y ≡ n.closing l log f t → ⊥
      not_closing log f is =
          let ends : Takeover LqhTransEnd ≡ Host (Closed (cause_in f.step.marks)) =
          sym has_ended.ends.body ∙ ap (λ (z : Addressed). z.signal.body) is in
          absurd cc

      closed : (log : List HostStep) (xs : List Addressed) → xs ≡ taken n l (new t) → old l ≡ log
          → IsClosing n l t log xs → Fronted
      closed [] xs same own closing = absurd closing
      closed (f ∷ log) xs same own closes = by (subst (IsIn y) (sym same ∙ closes.is) has_ended.there)
        where
          by : IsIn y (n.closing l log f t ∷ closes.rest) → Fronted
          by (inl is) = absurd (not_closing log f is)
          by (inr there) =
              of_past closes.rest (n.closing l log f t ∷ []) (sym same ∙ closes.is)
              (subst (λ w. IsPast closes.rest (sent n l t w)) (sym own) closes.past) there

      pub fronted : Fronted
      fronted = by given
        where
          by : IsGiven n l t (old l) (taken n l (new t)) → Fronted
          by (inl past) = of_past (taken n l (new t)) [] refl past has_ended.there
          by (inr closes) = closed (old l) (taken n l (new t)) refl refl closes

      module _ (tx : TxId) (orphan : IsOrphan (current start (logs_of start es)) tx) (key : List ℕ) where
        -- what is told of the transaction is noted
        noted : (Marked : Type 0) → IsAmong start old tx key Marked fronted.older
            → Each (λ (g : Gathered). g.tx ≡ tx → (has_key g.keys key ≡ true) × (Marked → g.epoch ≡ None → ⊥)) gathered
        noted Marked among =
            each_map _ _ gathered
            (λ g has same. ((has same).0, λ marked. (has same).1 (among.committed marked)))
            (all_gathered.noted l among.signal (fronted.before among.signal among.there) tx key among.telling)

        pub tells : (is_some (record_at start old one key tx) ≡ true → IsAmong start old tx key ⊥ fronted.older)
            × (has_marker_at start old one key tx ≡ true → IsAmong start old tx key Unit fronted.older)
        tells =
            behind start all e es moment member closing one full y fronted.newer fronted.older fronted.is has_ended.ends
            tx
            orphan key

    -- so it was told of all
    pub all_told : AllIsTold start (logs_of start es) member
    all_told = record {
      records = λ one full tx orphan key is.
          each_map _ _ gathered (λ g has same. (has same).0)
          (noted one full tx orphan key ⊥ ((tells one full tx orphan key).0 is));
      markers = λ one full tx orphan key is.
          each_map _ _ gathered (λ g has same. ((has same).0, (has same).1 tt))
          (noted one full tx orphan key Unit ((tells one full tx orphan key).1 is));
      prepared = all_gathered.prepared;
    }

pub gatherings_are_whole : EndsComeBehind → AllHaveEnded → TellingsAreGathered → GatheringsAreWhole
gatherings_are_whole behind ended gathered = all_told behind ended gathered
