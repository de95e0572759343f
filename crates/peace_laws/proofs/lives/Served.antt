-- A life in peace, request by request: it stands after each, and rests where nothing is under way. So its plain parts
-- are what the plain machine does, and each closing is answered, where closings go on from rest to rest.
use Rattle.std.proofs.Common.{◌<◌, ◌≡◌, ◌⊎◌, ◌≤◌, inl, inr, ℕ, true, List, [], ◌∷◌, ◌++◌, sym, subst}
use Rattle.std.proofs.Common.{arith}
use Rattle.std.proofs.Math.Path.{fun_ext}
use Rattle.std.proofs.lemmas.Bool.{or_cases}
use Rattle.frag_map.specs.Shape.{IsShape}
use Rattle.outcome_laws.proofs.knowledge.CommitsWereDecided.{commits_were_decided}
use Rattle.outcome_laws.specs.Decided.{IsMarked}
use Rattle.outcome_laws.specs.Outcomes.{HasEntry}
use Rattle.run_laws.proofs.history.EachEntry.{each_entry}
use Rattle.run_theory.proofs.Pasts.{each_in}
use Rattle.run_theory.proofs.Runs.{logs_of_run}
use Rattle.run_theory.specs.Lists.{Each}
use Rattle.run_theory.specs.Runs.{AreLogs}
use Rattle.sig_core.specs.declared.entry.Entry.{Entry}
use Rattle.sig_core.specs.declared.mark.Mark.{Mark}
use Rattle.sig_core.specs.declared.mark.Mark.TheVariants.{Decided, Reported}
use Rattle.sig_core.specs.declared.member.TxId.{TxId}
use Rattle.sig_core.specs.declared.outcome.Outcome.TheVariants.{Committed}
use Rattle.sig_core.specs.declared.request.ApiReq.{ApiReq}
use Rattle.view_laws.specs.Runs.{AreOfCluster}
use Rattle.peace_laws.proofs.lives.FirstHosts.{all_within}
use Rattle.world_core.specs.Entries.{entries, entries_in, entries_of}
use Rattle.world_core.specs.Hosts.{hosts}
use Rattle.world_core.specs.Requests as plain_requests
use Rattle.world_core.specs.Start.{NobodyStarts, Start}
use Rattle.world_core.specs.Steps.{HostStep}
use Rattle.world_views.specs.Machine.{machine}
use Rattle.world_views.specs.Quiet.{IsQuiet}
use Rattle.calm_laws.specs.Calm.{is_calm_request}
use Rattle.level_laws.specs.Laws.{HostsAreLevel}
use Rattle.peace_laws.specs.Laws.{AreServedBy, ClosingsAreAnswered, GoOnBy}
use Rattle.peace_laws.specs.Laws.{IsTold, PeacefulLivesArePlain}
use Rattle.peace_laws.specs.Parts.{plain_parts}
use Rattle.peace_laws.specs.Peace.{is_closing_request}
use Rattle.peace_laws.proofs.lives.CalmGoes.{calm_rests, calm_stands}
use Rattle.peace_laws.proofs.lives.FirstAsked.{asked_at_quiet}
use Rattle.peace_laws.proofs.lives.NextSignals.{AllTaken}
use Rattle.peace_laws.proofs.plain.Logs as plain_logs
use Rattle.peace_laws.proofs.lives.Stands.{AreBelow, IsBelow, Rests, Stands, has, lives_rest, taken_by_all}

-- Peace goes on by a closing: it stands, and where nothing is under way again it rests in the next epoch, and the
-- client was told of the end of the one that was closed.
pub record ClosesOn (start : Start) (request : ApiReq) (epoch : ℕ) (was more : ℕ → List HostStep) : Type 0 where
  pub stands : Stands start more
  pub next : ℕ
  pub later : epoch ≤ next
  pub rests : IsQuiet start more → Rests start next more
  pub told : IsQuiet start more → IsTold request start was more epoch

abbrev pub ClosingGoesOn : Type 0
ClosingGoesOn =
    (start : Start) → NobodyStarts start → (request : ApiReq) (epoch : ℕ) (was more : ℕ → List HostStep)
    → IsShape start.shape → 1 ≤ epoch
    → Rests start epoch was → IsQuiet start was → is_closing_request request ≡ true → GoOnBy start request was more
    → ClosesOn start request epoch was more

-- it rests in an epoch
record RestsSome (start : Start) (logs : ℕ → List HostStep) : Type 0 where
  epoch : ℕ
  some : 1 ≤ epoch
  rests : Rests start epoch logs

-- After each request:
record IsServed (start : Start) (logs : ℕ → List HostStep) : Type 0 where
  stands : Stands start logs
  rests : IsQuiet start logs → RestsSome start logs
  asked : plain_requests.AreAskedAtQuiet start (plain_parts start logs)

module _ (hosts_level : HostsAreLevel) (closes : ClosingGoesOn) (start : Start) (nobody : NobodyStarts start)
    (shape : IsShape start.shape)
    (rows : start.rows ≡ []) (above : start.start_epoch < start.epoch) where
  none_asked : plain_requests.AreAskedAtQuiet start (plain_parts start (λ h. []))
  none_asked newer e before is asks = absurd (nothing newer is)
    where
      nothing : (newer : List HostStep) → [] ≡ newer ++ e ∷ before → ⊥
      nothing [] is = cc (is)
      nothing (n ∷ newer) is = cc (is)

  begins : IsServed start (λ h. [])
  begins =
      let rests : Rests start start.epoch (λ h. []) = lives_rest start nobody rows in
      record {
        stands = rests.stands;
        rests = λ quiet. record { epoch = start.epoch; some = omega (arith, above); rests = rests };
        asked = none_asked;
      }

  module _ (request : ApiReq) (was more : ℕ → List HostStep) (served : IsServed start was) (quiet : IsQuiet start was)
      (by : GoOnBy start request was more) where
    rest : RestsSome start was
    rest = served.rests quiet

    abbrev old : Stands start was
    old = rest.rests.stands

    all : AllTaken start was
    all = taken_by_all start was old quiet

    asked : Stands start more → plain_requests.AreAskedAtQuiet start (plain_parts start more)
    asked now =
        asked_at_quiet start nobody request was more old now all by
        (plain_logs.right start old.es was (has start was old) old.kept)
        (plain_logs.quiet_plain start old.es was (has start was old) old.kept old.running quiet) served.asked

    next_by : (is_calm_request request ≡ true) ⊎ (is_closing_request request ≡ true) → IsServed start more
    next_by (inl calm) =
        let now : Stands start more =
        calm_stands hosts_level start nobody shape request rest.epoch was more rest.rests quiet by calm in
        record {
          stands = now;
          rests = λ again.
              record {
                epoch = rest.epoch;
                some = rest.some;
                rests = calm_rests hosts_level start nobody shape request rest.epoch was more rest.rests quiet by calm
                    again;
              };
          asked = asked now;
        }
    next_by (inr closing) =
        let on : ClosesOn start request rest.epoch was more =
        closes start nobody request rest.epoch was more shape rest.some rest.rests quiet closing by in
        record {
          stands = on.stands;
          rests = λ again.
              record { epoch = on.next; some = omega (arith, rest.some, on.later); rests = on.rests again };
          asked = asked on.stands;
        }

    next : IsServed start more
    next = next_by (or_cases (is_calm_request request) (is_closing_request request) by.peaceful)

  serves : (asked : List ApiReq) (logs : ℕ → List HostStep) → AreServedBy start asked logs → IsServed start logs
  serves [] logs none = subst (IsServed start) (fun_ext (λ h. sym (none h))) begins
  serves (request ∷ earlier) logs (was, (before, (quiet, by))) =
      next request was logs (serves earlier was before) quiet by

-- so their plain parts are logs of the plain machine
pub lives_plain : HostsAreLevel → ClosingGoesOn → PeacefulLivesArePlain
lives_plain hosts_level closes start nobody asked logs life =
    let served : IsServed start logs =
    serves hosts_level closes start nobody life.shape life.rows life.begins asked logs life.served in
    let stands : Stands start logs = served.stands in
    record {
      peaceful = stands.peaceful;
      right = plain_logs.right start stands.es logs (has start logs stands) stands.kept;
      within = plain_logs.within start stands.es logs (has start logs stands) stands.kept stands.within;
      replies = plain_logs.replies start stands.es logs (has start logs stands) stands.kept;
      asked = plain_logs.asked start stands.es logs (has start logs stands) stands.kept;
      at_quiet = served.asked;
      quiet =
          λ quiet. plain_logs.quiet_plain start stands.es logs (has start logs stands) stands.kept stands.running quiet;
    }

-- what was decided in no later epoch has no entry in one
marks_entered : (epoch h stamp : ℕ) (log : List HostStep) (marks : List Mark) (before : List Entry)
    → Each (IsBelow epoch) marks → Each (λ (b : Entry). b.epoch ≤ epoch) before
    → Each (λ (b : Entry). b.epoch ≤ epoch) (entries_in h stamp log marks before)
marks_entered epoch h stamp log [] before below all = all
marks_entered epoch h stamp log (Decided tx other ∷ marks) before below all =
    marks_entered epoch h stamp log marks _ below.1 (below.0, all)
marks_entered epoch h stamp log (mark ∷ marks) before below all =
    marks_entered epoch h stamp log marks before below.1 all

log_entered : (epoch h : ℕ) (log : List HostStep) → AreBelow epoch log
    → Each (λ (b : Entry). b.epoch ≤ epoch) (entries_of h log)
log_entered epoch h [] below = tt
log_entered epoch h (e ∷ log) below =
    marks_entered epoch h e.step.stamp (e ∷ log) e.step.marks (entries_of h log) below.0
    (log_entered epoch h log below.1)

module _ (start : Start) (nobody : NobodyStarts start) (shape : IsShape start.shape) (epoch : ℕ)
    (logs : ℕ → List HostStep)
    (rests : Rests start epoch logs) where
  of_cluster : AreOfCluster start logs
  of_cluster =
      record {
        shape = shape;
        nobody = nobody;
        right =
            subst (AreLogs (machine start)) rests.stands.is
            (logs_of_run (machine start) rests.stands.es rests.stands.run);
        within = all_within start nobody logs rests.stands.within;
      }

  -- so whoever was reported committed has no later one
  covers : (tx : TxId) (other : ℕ) → IsMarked (Reported tx (Committed other)) (logs 0) → other ≤ epoch
  covers tx other marked =
      let has : HasEntry tx other (entries (hosts start) logs) =
      commits_were_decided start logs of_cluster tx other marked in
      let low : has.entry.epoch ≤ epoch =
      each_in (λ (b : Entry). b.epoch ≤ epoch) has.entry (entries (hosts start) logs)
      (each_entry (λ (b : Entry). b.epoch ≤ epoch) (hosts start) logs
      (λ h. log_entered epoch h (logs h) (rests.below h))) has.there in
      omega (arith, low, has.epoch_is)

-- and closings are answered
pub closings_answered : HostsAreLevel → ClosingGoesOn → ClosingsAreAnswered
closings_answered hosts_level closes start nobody earlier request was now life quiet closing by again =
    let served : IsServed start was =
    serves hosts_level closes start nobody life.shape life.rows life.begins earlier was life.served in
    let rest : RestsSome start was = served.rests quiet in
    let on : ClosesOn start request rest.epoch was now =
    closes start nobody request rest.epoch was now life.shape rest.some rest.rests quiet closing by in
    record {
      epoch = rest.epoch;
      told = on.told again;
      covers = covers start nobody life.shape rest.epoch was rest.rests;
    }
