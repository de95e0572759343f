-- What a step of a member's rows and their saver comes to for whoever doesn't look at the journal: the rows take the
-- signal; or they are as they were but for their journal, and their saver alone sends something.
use Rattle.std.proofs.Common.{◌≡◌, ℕ, Bool, true, false, List, [], refl, sym}
use Rattle.std.proofs.lemmas.Bool.{true≢false}
use Rattle.run_theory.specs.Lists.{Each}
use Rattle.run_theory.proofs.Pasts.{each_map}
use Rattle.sig_core.specs.declared.outs.Outgoing.{Outgoing}
use Rattle.sig_core.specs.declared.signal.Body.{Body}
use Rattle.sig_core.specs.declared.signal.Body.TheVariants.{Checkpoint, Host}
use Rattle.sig_core.specs.declared.signal.Signal.{Signal}
use Rattle.sig_core.specs.declared.signal.checkpoint.CheckpointSignal.TheVariants.{LcpFragRep, LcpSwitchConf}
use Rattle.sig_core.specs.declared.signal.host.HostSignal.TheVariants.{Continue}
use Rattle.sig_core.specs.declared.signal.host.Work.TheVariants.{Walk}
use Rattle.sig_core.specs.Step.{Step}
use Rattle.lqh_block.specs.Fresh.{no_outlet, unused}
use Rattle.lqh_block.specs.State.{with_journal}
use Rattle.lqh_views.specs.Replica.{replica_row}
use Rattle.lqh_views.specs.State.{ReplicaState, with_lqh}
use Rattle.lqh_saver.specs.Saver.{saver_row}
use Rattle.lqh_saver.specs.State.{SavingState}
use Rattle.lqh_saver.proofs.StepLemmas.{saver_sends}
use Rattle.lqh_saver.proofs.Walk.{saver_outcomes}

-- Rows without their journal, and what it has still to give out. What doesn't look at these is the same for rows that
-- are the same so.
abbrev pub unjournaled : ReplicaState → ReplicaState
unjournaled s = with_lqh s (with_journal s.lqh unused no_outlet)

-- the rows are the same, but for their journals
abbrev pub AreAlike : ReplicaState → ReplicaState → Type 0
AreAlike one other = unjournaled one ≡ unjournaled other

-- the signal is their saver's: it tells the master of a local checkpoint, or goes on with a walk
abbrev pub is_of_saver : Body → Bool
is_of_saver (Checkpoint (LcpFragRep epoch)) = true
is_of_saver (Checkpoint LcpSwitchConf) = true
is_of_saver (Host (Continue Walk at)) = true
is_of_saver body = false

abbrev pub IsOfSaver : Outgoing → Type 0
IsOfSaver sent = is_of_saver sent.body ≡ true

-- what is so of each signal of theirs
pub record OfSaver (P : Body → Type 0) : Type 0 where
  pub reports : (epoch : ℕ) → P (Checkpoint (LcpFragRep epoch))
  pub confirms : P (Checkpoint LcpSwitchConf)
  pub goes_on : (at : ℕ) → P (Host (Continue Walk at))

pub of_saver : (P : Body → Type 0) → OfSaver P → (body : Body) → is_of_saver body ≡ true → P body
of_saver P own (Checkpoint (LcpFragRep epoch)) is = own.reports epoch
of_saver P own (Checkpoint LcpSwitchConf) is = own.confirms
of_saver P own (Host (Continue Walk at)) is = own.goes_on at
of_saver P own body is = absurd (true≢false (sym is))

pub data SaverGoes (s : SavingState) (x : Signal) (t : Step SavingState) : Type 0 where
  took : t.state.replica ≡ (replica_row s.replica x).state → t.effects ≡ (replica_row s.replica x).effects
      → SaverGoes s x t
  saved : AreAlike t.state.replica s.replica → Each IsOfSaver t.effects.sends → t.effects.marks ≡ []
      → SaverGoes s x t

-- whatever they take
pub saver_goes : (s : SavingState) (x : Signal) → SaverGoes s x (saver_row s x)
saver_goes s x =
    saver_outcomes s x (SaverGoes s x) (record {
      passes = λ is. took refl refl;
      durable = λ epoch is. took refl refl;
      orders = λ is. saved refl (refl, tt) refl;
      writes = λ n walk to at is walking some. saved refl (refl, tt) refl;
      ends = λ n walk to is walking all. saved refl (refl, tt) refl;
      switches = λ finished end is walked has usable. saved refl (refl, tt) refl;
      idles = λ is. saved refl tt refl;
    })

-- what is so of what the rows send, and of any signals of their saver, is so of what they send together
pub saver_lists : (s : SavingState) (x : Signal) (R : List Outgoing → Type 0)
    → R (replica_row s.replica x).effects.sends → ((sends : List Outgoing) → Each IsOfSaver sends → R sends)
    → R (saver_row s x).effects.sends
saver_lists s x R rows own =
    saver_sends s x R rows (own [] tt) (record {
      goes_on = λ is. own _ (refl, tt);
      reports = λ walk to is walking. own _ (refl, tt);
      confirms = λ finished end is walked usable. own _ (refl, tt);
    })

-- and what is so of each of them
pub saver_says : (s : SavingState) (x : Signal) (P : Body → Type 0) → OfSaver P
    → Each (λ (sent : Outgoing). P sent.body) (replica_row s.replica x).effects.sends
    → Each (λ (sent : Outgoing). P sent.body) (saver_row s x).effects.sends
saver_says s x P own rows =
    saver_lists s x (Each (λ (sent : Outgoing). P sent.body)) rows
    (λ sends of_them.
    each_map IsOfSaver (λ (sent : Outgoing). P sent.body) sends (λ sent is. of_saver P own sent.body is) of_them)
