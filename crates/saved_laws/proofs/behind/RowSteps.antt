-- What a step of the host of a member's rows makes of what they have saved: it never falls, and what the host tells is
-- no more than that, all but the last that it sends no more than what was saved before.
use Rattle.std.proofs.Common.{◌++◌, ◌∙◌, ◌∷◌, ◌≡◌, ◌≤◌, ◌⊎◌, Bool, List, [], ap, arith, false, inl, inr, refl, subst}
use Rattle.std.proofs.Common.{sym, true, ℕ}
use Rattle.std.proofs.lemmas.Bool.{ltb-false, ltb-true, true≢false}
use Rattle.std.specs.Prelude.{if◌then◌else◌, nat_lt}
use Rattle.run_theory.proofs.Pasts.{each_map}
use Rattle.run_theory.specs.Lists.{Each, IsIn}
use Rattle.sig_core.specs.Step.{Step}
use Rattle.sig_core.specs.declared.mark.Mark.{Mark}
use Rattle.sig_core.specs.declared.member.Member.{Member}
use Rattle.sig_core.specs.declared.outs.Outgoing.{Outgoing}
use Rattle.sig_core.specs.declared.place.BlockId.{BlockId}
use Rattle.sig_core.specs.declared.place.BlockId.TheVariants.{Lqh}
use Rattle.sig_core.specs.declared.place.BlockId.TheVariants as block
use Rattle.sig_core.specs.declared.rows.PendingRecord.{PendingRecord}
use Rattle.sig_core.specs.declared.signal.Body.{Body}
use Rattle.sig_core.specs.declared.signal.Body.TheVariants.{Epoch}
use Rattle.sig_core.specs.declared.signal.Signal.{Signal}
use Rattle.sig_core.specs.declared.signal.epoch.EpochSignal.TheVariants.{GcpSaveConf, GcpStateConf}
use Rattle.sig_core.specs.declared.view.Shape.{Shape}
use Rattle.sig_core.specs.declared.view.View.{View}
use Rattle.step_forms.proofs.DoesLemmas.{speaks_do}
use Rattle.lqh_views.proofs.Walk.{passed_words, replica_outcomes}
use Rattle.lqh_views.specs.Epochs.{greater}
use Rattle.lqh_views.specs.Replica.{passed, replica_row}
use Rattle.lqh_views.specs.Report.{told_record_if}
use Rattle.lqh_views.specs.State.{ReplicaState}
use Rattle.lqh_views.specs.Words.{is_replica_mark, is_row_word}
use Rattle.lqh_saver.proofs.Walk.{saver_outcomes}
use Rattle.lqh_saver.specs.Saver.{saver_row}
use Rattle.lqh_saver.specs.State.{SavingState, saving}
use Rattle.node_views.specs.Parts.{ldm_row}
use Rattle.node_views.specs.declared.ldm_part.LdmPart.{LdmPart}
use Rattle.node_views.specs.declared.parts.Parts.{Parts}
use Rattle.world_core.specs.Start.{NobodyStarts, Start, made}
use Rattle.world_core.specs.Steps.{HostStep}
use Rattle.world_views.specs.Machine.{after, step_after}
use Rattle.view_laws.specs.Runs.{view_after}
use Rattle.moment_laws.specs.PartSteps.{LdmDoes, PartEnters, PartTakes, handles, ignores, installs, ldm_kind, remains}
use Rattle.moment_laws.specs.Places.{ldm_of}
use Rattle.request_laws.proofs.routes.PartSteps.{own_ldm, rows_are}
use Rattle.request_laws.specs.Blocks.{rows_after}
use Rattle.saved_laws.specs.Copied.{TellsSaved, TellsUpTo}
use Rattle.saved_laws.proofs.behind.ButLast.{EachButLast, but_last_of_each}

-- no later epoch is told
abbrev pub AreUpTo : ℕ → List Outgoing → Type 0
AreUpTo most sends = Each (λ (sent : Outgoing). TellsUpTo most sent.body) sends

-- or none at all
abbrev TellsNone : Body → Type 0
TellsNone body = (epoch : ℕ) → TellsSaved epoch body → ⊥

words_tell_none : (body : Body) → is_row_word body ≡ true → TellsNone body
words_tell_none (Epoch (GcpSaveConf saved)) is epoch tells = true≢false (sym is)
words_tell_none (Epoch (GcpStateConf now prepared next closed saved durable)) is epoch tells = true≢false (sym is)
words_tell_none (Epoch signal) is epoch tells = true≢false (sym is)
words_tell_none body is epoch tells = tells

-- what is saved rises, what is sent tells no more, and all but the last no more than before
pub record Rises (before now : ℕ) (sends : List Outgoing) : Type 0 where
  pub rises : before ≤ now
  pub told : AreUpTo now sends
  pub but_last : EachButLast (λ (sent : Outgoing). TellsUpTo before sent.body) sends

none_rise : (saved : ℕ) (sends : List Outgoing) → Each (λ (sent : Outgoing). TellsNone sent.body) sends
    → Rises saved saved sends
none_rise saved sends none =
    let told : AreUpTo saved sends =
    each_map (λ (sent : Outgoing). TellsNone sent.body) (λ (sent : Outgoing). TellsUpTo saved sent.body) sends
    (λ sent is epoch tells. absurd (is epoch tells)) none in
    record {
      rises = omega arith;
      told = told;
      but_last = but_last_of_each (λ (sent : Outgoing). TellsUpTo saved sent.body) sends told;
    }

greater_both : (one other : ℕ) → (one ≤ greater one other) × (other ≤ greater one other)
greater_both one other = by (nat_lt one other) refl
  where
    by : (b : Bool) → nat_lt one other ≡ b
        → (one ≤ (if b then other else one)) × (other ≤ (if b then other else one))
    by true is = let below = ltb-true one other is in (omega (arith, below), omega arith)
    by false is = (omega arith, ltb-false one other is)

abbrev StepRises : ReplicaState → Step ReplicaState → Type 0
StepRises s step = Rises s.saved step.state.saved step.effects.sends

replica_rises : (s : ReplicaState) (x : Signal) → StepRises s (replica_row s x)
replica_rises s x =
    replica_outcomes s x (StepRises s) (record {
      passes = λ of_rows.
          none_rise s.saved (passed s x).effects.sends
          (speaks_do is_row_word is_replica_mark TellsNone (λ (mark : Mark). Unit {0}) (passed s x) words_tell_none
          (λ mark is. tt) (passed_words s x)).0;
      stales = λ of_waits stale. none_rise s.saved [] tt;
      unasked = λ at is none. none_rise s.saved [] tt;
      ignores = λ signal is. none_rise s.saved [] tt;
      promises = λ proposal is. none_rise s.saved _ (λ epoch tells. tells, tt);
      closes = λ epoch is. none_rise s.saved _ (λ epoch tells. tells, tt);
      saves = λ epoch is. record {
        rises = (greater_both s.saved epoch).0;
        told = (λ less tells. let most = (greater_both s.saved epoch).1 in omega (arith, tells, most), tt);
        but_last = (inr refl, tt);
      };
      states = λ is. record {
        rises = omega arith;
        told = (λ less tells. tells, tt);
        but_last = (inr refl, tt);
      };
      tells_record = λ r under_way at one last there.
          none_rise s.saved _ (record_none r.to one one.committed, (λ epoch tells. tells, tt));
      tells_marker = λ r under_way at m none last there.
          none_rise s.saved _ (λ epoch tells. tells, (λ epoch tells. tells, tt));
      ends = λ r under_way none no_more. none_rise s.saved _ (λ epoch tells. tells, tt);
    })
  where
    record_none : (to : ℕ) (one : PendingRecord) (b : Bool) → TellsNone (told_record_if to one b).body
    record_none to one true epoch tells = tells
    record_none to one false epoch tells = tells

saving_rises : (s : SavingState) (x : Signal)
    → Rises s.replica.saved (saver_row s x).state.replica.saved (saver_row s x).effects.sends
saving_rises s x =
    saver_outcomes s x (λ step. Rises s.replica.saved step.state.replica.saved step.effects.sends) (record {
      passes = λ is. replica_rises s.replica x;
      durable = λ epoch is. replica_rises s.replica x;
      orders = λ is. none_rise s.replica.saved _ (λ epoch tells. tells, tt);
      writes = λ n walk to at is walking some. none_rise s.replica.saved _ (λ epoch tells. tells, tt);
      ends = λ n walk to is walking all. none_rise s.replica.saved _ (λ epoch tells. tells, tt);
      switches = λ finished end is walked has usable. none_rise s.replica.saved _ (λ epoch tells. tells, tt);
      idles = λ is. none_rise s.replica.saved [] tt;
    })

part_rises : (p : LdmPart) (b : BlockId) (x : Signal)
    → Rises p.replica.saved (ldm_row p b x).state.replica.saved (ldm_row p b x).effects.sends
unfolding ldm_row
part_rises p block.Lqh x = saving_rises (saving p.replica p.saver) x
part_rises p _ x = none_rise p.replica.saved [] tt

-- what its host does with the part
module _ (shape : Shape) (p : LdmPart) (view : View) (x : Signal) (now : Parts) (seen : View) (sends : List Outgoing)
    (did : LdmDoes shape p view x now seen sends)
  where
    abbrev saved_in : LdmPart → ℕ
    saved_in q = q.replica.saved

    between_same : PartEnters ldm_kind p view x did.between seen did.front
        → (saved_in did.between ≡ saved_in p) × (did.front ≡ [])
    between_same (remains same stands none) = (ap saved_in same, none)
    between_same (installs above same stands is) = (ap saved_in same, is)

    rest_rises : PartTakes ldm_kind shape did.between seen x did.own did.rest
        → Rises (saved_in did.between) (saved_in did.own) did.rest
    rest_rises (ignores same none) =
        subst (λ (q : LdmPart). Rises (saved_in did.between) (saved_in q) did.rest) (sym same)
        (subst (Rises (saved_in did.between) (saved_in did.between)) (sym none)
        (none_rise (saved_in did.between) [] tt))
    rest_rises (handles passed same is) =
        subst (λ (q : LdmPart). Rises (saved_in did.between) (saved_in q) did.rest) (sym same)
        (subst (Rises (saved_in did.between) (saved_in (ldm_row did.between x.to.block x).state)) (sym is)
        (part_rises did.between x.to.block x))

    does_rise : Rises (saved_in p) (saved_in did.own) sends
    does_rise = by did.sent
      where
        inside : (saved_in did.between ≡ saved_in p) × (did.front ≡ [])
        inside = between_same did.enters

        rest : Rises (saved_in p) (saved_in did.own) did.rest
        rest = subst (λ saved. Rises saved (saved_in did.own) did.rest) inside.0 (rest_rises did.takes)

        by : (sends ≡ did.front ++ did.rest) ⊎ (sends ≡ []) → Rises (saved_in p) (saved_in did.own) sends
        by (inl whole) =
            subst (Rises (saved_in p) (saved_in did.own)) (sym (whole ∙ ap (λ front. front ++ did.rest) inside.1))
            rest
        by (inr nothing) =
            subst (Rises (saved_in p) (saved_in did.own)) (sym nothing)
            (record { rises = rest.rises; told = tt; but_last = tt })

-- along the log of the host of rows
module _ (start : Start) (nobody : NobodyStarts start) (member : Member) (there : IsIn member (made start)) where
  abbrev h : ℕ
  h = ldm_of start member

  abbrev saved_behind : List HostStep → ℕ
  saved_behind log = (rows_after start member log).saved

  pub host_rises : (log : List HostStep) (e : HostStep)
      → Rises (saved_behind log) (saved_behind (e ∷ log)) (step_after start h log e).effects.sends
  host_rises log e =
      let step = own_ldm start nobody member there log e in
      let saved : ReplicaState → ℕ = λ s. s.saved in
      subst (λ n. Rises n (saved_behind (e ∷ log)) (step_after start h log e).effects.sends)
      (sym (ap saved (rows_are start member h log refl step.own step.runs)))
      (subst (λ n. Rises step.own.replica.saved n (step_after start h log e).effects.sends)
      (sym (ap saved (rows_are start member h (e ∷ log) refl step.does.own step.does.is)))
      (does_rise start.shape step.own (view_after start h log) e.step.taken (after start h (e ∷ log)).parts
      (view_after start h (e ∷ log)) (step_after start h log e).effects.sends step.does))
