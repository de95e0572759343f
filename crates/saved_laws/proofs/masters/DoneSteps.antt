-- A master tells that an epoch is durable of the checkpoint alone that has ended and of which not all were told yet;
-- and that was marked, at the step in which it ended or before.
use Rattle.std.proofs.Common.{◌≡◌, ◌⊎◌, ℕ, Bool, false, List, [], ◌∷◌, refl, ap, subst, inl, inr}
use Rattle.std.specs.Prelude.{is_some, Option, None, Some}
use Rattle.run_theory.specs.Lists.{Each, IsIn}
use Rattle.sig_core.specs.declared.mark.Mark.{Mark}
use Rattle.sig_core.specs.declared.mark.Mark.TheVariants.{Closed, Durable}
use Rattle.sig_core.specs.declared.outs.Outgoing.{Outgoing}
use Rattle.sig_core.specs.declared.signal.Body.{Body}
use Rattle.sig_core.specs.declared.signal.Body.TheVariants.{Epoch}
use Rattle.sig_core.specs.declared.signal.Signal.{Signal}
use Rattle.sig_core.specs.declared.signal.epoch.EpochSignal.TheVariants.{GcpDone}
use Rattle.sig_core.specs.Step.{Step, stay}
use Rattle.gcp_master.specs.declared.orders.Ended.{Ended}
use Rattle.gcp_master.specs.declared.orders.Ended.TheVariants.{Global, Micro}
use Rattle.gcp_master.specs.declared.phase.Phase.TheVariants.{Closing, Committing, Copying, Gathering, Saving}
use Rattle.gcp_master.specs.declared.phase.Run.{Run}
use Rattle.gcp_master.specs.Known.{nothing_known}
use Rattle.gcp_master.specs.Master.{master_row}
use Rattle.gcp_master.specs.Resume.{knowing}
use Rattle.gcp_master.specs.Sends.{listing, marking}
use Rattle.gcp_master.specs.State.{MasterState, at_phase}
use Rattle.gcp_master.proofs.Outcomes.{BeginOutcomes, at_durable, at_end, beginning, have_walked, heard_one, known_with}
use Rattle.gcp_master.proofs.Outcomes.{master_outcomes, not_owing, stopping, voice_of}
use Rattle.gcp_master.proofs.Walk.{listing_does, listing_state, walking_does}

-- the epoch of which a signal tells that it is durable is one of these
abbrev pub TellsOnly : (ℕ → Type 0) → Body → Type 0
TellsOnly M (Epoch (GcpDone epoch)) = M epoch
TellsOnly M body = Unit {0}

abbrev pub TellOnly : (ℕ → Type 0) → List Outgoing → Type 0
TellOnly M sends = Each (λ (sent : Outgoing). TellsOnly M sent.body) sends

-- the epoch of the checkpoint that has ended, if not all were told of it yet, is one of these
abbrev pub EndedIsOf : (ℕ → Type 0) → Option Ended → Type 0
EndedIsOf M (Some (Global epoch copy local)) = M epoch
EndedIsOf M ended = Unit {0}

-- it is one of these, or is marked durable now
abbrev pub WithMarks : (ℕ → Type 0) → List Mark → ℕ → Type 0
WithMarks M marks epoch = M epoch ⊎ IsIn (Durable epoch) marks

pub ended_more : (M N : ℕ → Type 0) → ((epoch : ℕ) → M epoch → N epoch) → (o : Option Ended) → EndedIsOf M o
    → EndedIsOf N o
ended_more M N more (Some (Global epoch copy local)) is = more epoch is
ended_more M N more (Some (Micro epoch)) is = tt
ended_more M N more None is = tt

pub tells_more : (M N : ℕ → Type 0) → ((epoch : ℕ) → M epoch → N epoch) → (body : Body) → TellsOnly M body
    → TellsOnly N body
tells_more M N more (Epoch (GcpDone epoch)) is = more epoch is
tells_more M N more body is = tt

-- it stays so behind a step, with what is marked in it, and the step tells only of such
abbrev pub Keeps : (ℕ → Type 0) → Step MasterState → Type 0
Keeps M step =
    EndedIsOf (WithMarks M step.effects.marks) step.state.front
    × TellOnly (WithMarks M step.effects.marks) step.effects.sends

-- also where it is marked too, and what was supposed of the rest of the step is so, or is what is marked
marked_too : (M N : ℕ → Type 0) (mark : Mark) → ((epoch : ℕ) → N epoch → M epoch ⊎ (Durable epoch ≡ mark))
    → (step : Step MasterState) → Keeps N step → Keeps M (marking mark step)
marked_too M N mark is step keeps = (
  ended_more (WithMarks N step.effects.marks) (WithMarks M (mark ∷ step.effects.marks)) more step.state.front keeps.0,
  each step.effects.sends keeps.1,
)
  where
    more : (epoch : ℕ) → WithMarks N step.effects.marks epoch → WithMarks M (mark ∷ step.effects.marks) epoch
    more epoch (inr later) = inr (inr later)
    more epoch (inl own) = by (is epoch own)
      where
        by : M epoch ⊎ (Durable epoch ≡ mark) → WithMarks M (mark ∷ step.effects.marks) epoch
        by (inl before) = inl before
        by (inr now) = inr (inl now)

    each : (sends : List Outgoing) → TellOnly (WithMarks N step.effects.marks) sends
        → TellOnly (WithMarks M (mark ∷ step.effects.marks)) sends
    each [] all = tt
    each (sent ∷ sends) all = (
      tells_more (WithMarks N step.effects.marks) (WithMarks M (mark ∷ step.effects.marks)) more sent.body all.0,
      each sends all.1,
    )

module _ (M : ℕ → Type 0) where
  -- whatever is marked, what has ended is the same
  kept : (marks : List Mark) (t : MasterState) → EndedIsOf M t.front → EndedIsOf (WithMarks M marks) t.front
  kept marks t ended = ended_more M (WithMarks M marks) (λ epoch is. inl is) t.front ended

  -- what is sent of a list
  lists : (t : MasterState) (at : ℕ) → EndedIsOf M t.front → Keeps M (listing t at)
  lists t at ended = (
    listing_state t at (λ (u : MasterState). EndedIsOf Now u.front) here tt,
    (listing_does t at (λ (sent : Outgoing). TellsOnly Now sent.body) (λ (mark : Mark). Unit {0}) (record {
      asks = λ known to member is one there. tt;
      prepares = λ run member is there. tt;
      commits = λ run member is there. tt;
      closes = λ run to member is one there. tt;
      saves = λ run member is there. tt;
      copies = λ run member is there. tt;
      tells_micro = λ epoch is. tt;
      tells_global = λ epoch copy local is. tt;
      tells_members = λ epoch copy local to member is one there. subst (EndedIsOf Now) is here;
      tells_copying = λ epoch local is. tt;
      switches = λ epoch copy member is there. tt;
      goes_on = λ left. tt;
    })).0,
  )
    where
      Now : ℕ → Type 0
      Now = WithMarks M (listing t at).effects.marks

      here : EndedIsOf Now t.front
      here = kept (listing t at).effects.marks t ended

  begins : (t : MasterState) (current : ℕ) (behind : Bool) → EndedIsOf M t.front
      → BeginOutcomes t current behind (Keeps M)
  begins t current behind ended = record {
    stops = λ spent. (kept (stopping t).effects.marks t ended, tt);
    follows = λ phase asked is front. (kept [] t ended, tt);
    begins = λ phase asked is front. lists (beginning t phase asked) 0 ended;
  }

-- a checkpoint that becomes durable is the one that has ended
ends : (M : ℕ → Type 0) (t : MasterState) (run : Run) → EndedIsOf (λ epoch. M epoch ⊎ (epoch ≡ run.epoch)) t.front
    → BeginOutcomes t run.next false (λ step. Keeps M (marking (Durable run.epoch) step))
ends M t run ended =
    let own = begins (λ epoch. M epoch ⊎ (epoch ≡ run.epoch)) t run.next false ended in
    record {
      stops = λ spent. marked (stopping t) (own.stops spent);
      follows = λ phase asked is front. marked (stay (beginning t phase asked)) (own.follows phase asked is front);
      begins = λ phase asked is front. marked (listing (beginning t phase asked) 0) (own.begins phase asked is front);
    }
  where
    one : (epoch : ℕ) → M epoch ⊎ (epoch ≡ run.epoch) → M epoch ⊎ (Durable epoch ≡ Durable run.epoch)
    one epoch (inl before) = inl before
    one epoch (inr same) = inr (ap (λ n. Durable n) same)

    marked : (step : Step MasterState) → Keeps (λ epoch. M epoch ⊎ (epoch ≡ run.epoch)) step
        → Keeps M (marking (Durable run.epoch) step)
    marked = marked_too M (λ epoch. M epoch ⊎ (epoch ≡ run.epoch)) (Durable run.epoch) one

module _ (M : ℕ → Type 0) (s : MasterState) (x : Signal) (ended : EndedIsOf M s.front) where
  -- nothing is sent, and what has ended is the same
  same : Keeps M (record { state = s; effects = record { sends = []; marks = [] } })
  same = (kept M [] s ended, tt)

  closes : (run : Run) (t : MasterState) → Keeps M (marking (Closed run.epoch) (listing (at_phase t (Closing run)) 0))
  closes run t =
      marked_too M M (Closed run.epoch) (λ epoch is. inl is) (listing (at_phase t (Closing run)) 0)
      (lists M (at_phase t (Closing run)) 0 tt)

  -- whatever it takes
  pub master_keeps : Keeps M (master_row s x)
  master_keeps =
      master_outcomes s x (Keeps M) (record {
        stays = same;
        goes_on = λ at is own low. lists M s at ended;
        asks = λ asked is. same;
        asks_resting = λ asked current is at. begins M (record s { asked = asked }) current (is_some s.front) ended;
        is_ordered = λ is at. lists M (at_phase s (Gathering nothing_known)) 0 tt;
        learns = λ known t is at on some. same;
        resumes = λ known t phase is at on all alike to.
            lists M (at_phase (knowing (heard_one s x) (known_with s (voice_of x) known t)) phase) 0 tt;
        resumes_resting = λ known t is at on all most least.
            begins M (knowing (heard_one s x) (known_with s (voice_of x) known t))
            (known_with s (voice_of x) known t).next false ended;
        prepares = λ run is at on some. same;
        commits = λ run is at on all. lists M (at_phase (heard_one s x) (Committing run)) 0 tt;
        finishes = λ run is at on some. same;
        closes = λ run is at on none all. closes run (heard_one s x);
        is_over = λ is. same;
        closes_over = λ run is at all. closes run (not_owing s);
        notes = λ run is at on some. same;
        goes_saving = λ run is at on all first. lists M (at_phase (heard_one s x) (Saving run)) 0 tt;
        ends_micro = λ run is at on all other.
            begins M (at_end (heard_one s x) run (Micro run.epoch)) run.next false tt;
        saves = λ run is at on some. same;
        goes_copying = λ run is at on all. lists M (at_phase (heard_one s x) (Copying run)) 0 tt;
        copies = λ run is at on some. same;
        ends_global = λ run is at on all. ends M (at_durable (heard_one s x) run) run (inr refl);
        walks = λ is at first. (
          same.0,
          (walking_does s (λ (sent : Outgoing). TellsOnly (WithMarks M []) sent.body) (λ (mark : Mark). Unit {0})
              (λ member there. tt)).0,
        );
        hears_walk = λ epoch is at on some. same;
        asks_walked = λ epoch is at on all. same;
        asks_walked_resting = λ epoch current is at on all rests.
            begins M (have_walked s) current (is_some s.front) ended;
        hears_switch = λ epoch is at on some. same;
        ends_local = λ epoch is at on all. (same.0, (tt, tt));
      })
