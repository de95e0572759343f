-- A takeover tells of each commit that it is at work on before it is complete.
use Rattle.std.proofs.Common.{◌≡◌, ◌⊎◌, ◌==◌, ◌-◌, ◌+◌, ◌∙◌, ℕ, Bool, true, false, List, [], ◌∷◌, drop, inl, inr}
use Rattle.std.proofs.Common.{length, map, nat_lt, refl, ap, sym, subst, take}
use Rattle.std.specs.List.{flat_map}
use Rattle.std.specs.Prelude.{Option, None, Some, remove, slice_get}
use Rattle.run_theory.specs.Lists.{Each, IsIn}
use Rattle.run_theory.proofs.EachSent.{each_drop, each_flat, each_mapped, each_take}
use Rattle.run_theory.proofs.Pasts.{each_append}
use Rattle.sig_core.specs.declared.member.TxId.{TxId}
use Rattle.sig_core.specs.declared.outs.Outgoing.{Outgoing}
use Rattle.sig_core.specs.declared.place.Place.{Place}
use Rattle.sig_core.specs.declared.portion.TheConstants.{PORTION}
use Rattle.sig_core.specs.declared.signal.Body.{Body}
use Rattle.sig_core.specs.declared.signal.Body.TheVariants.{Client, Takeover}
use Rattle.sig_core.specs.declared.signal.Signal.{Signal}
use Rattle.sig_core.specs.declared.signal.client.ClientSignal.TheVariants.{NfCompleteRep}
use Rattle.sig_core.specs.declared.signal.host.Work.{Work}
use Rattle.sig_core.specs.declared.signal.host.Work.TheVariants as work
use Rattle.sig_core.specs.declared.signal.takeover.TakeoverSignal.TheVariants.{LqhTransEnd}
use Rattle.sig_core.specs.declared.view.View.{View}
use Rattle.sig_core.specs.Place.{takeover}
use Rattle.sig_core.specs.Portion.{portion_effects, rest_if}
use Rattle.sig_core.specs.Step.{Step}
use Rattle.frag_map.specs.Layout.{Layout, chain_of}
use Rattle.takeover_block.specs.declared.gathered.Gathered.{Gathered}
use Rattle.takeover_block.specs.declared.stage.Stage.{Stage}
use Rattle.takeover_block.specs.declared.stage.Stage.TheVariants.{Aborting, Committing, Completing, Gathering, Resting}
use Rattle.takeover_block.specs.Gather.{member_count}
use Rattle.takeover_block.specs.Rule.{entering, finishing, ruling, ruling_by, way_by, way_of}
use Rattle.takeover_block.specs.Sends.{abort_at, ask_effects, ask_of, asks_of, front_sends, key_sends, key_sends_along}
use Rattle.takeover_block.specs.Sends.{stage_effects, stage_sends, told_committed}
use Rattle.takeover_block.specs.State.{TakeoverState, with_gathered}
use Rattle.takeover_block.specs.Takeover.{takeover_row}
use Rattle.takeover_block.proofs.EachTakeover.{takeover_each}
use Rattle.takeover_block.proofs.LawLemmas.{first_found}
use Rattle.commit_laws.specs.Reported.{AreAttended, IsAttended, IsFirstSaid, IsListed}
use Rattle.commit_laws.proofs.fates.SpokenTakeover.{IsAbortingAt}

-- these tell the client's side of the commit of the transaction
pub record IsToldIn (tx : TxId) (sends : List Outgoing) : Type 0 where
  pub epoch : ℕ
  pub there : IsIn (told_committed tx epoch) sends

-- without the first of what is gathered
listed_rest : (g : Gathered) (gs : List Gathered) (tx : TxId) → IsListed tx (g ∷ gs)
    → (g.tx ≡ tx) ⊎ IsListed tx (remove (g ∷ gs) 0)
listed_rest g gs tx listed = by listed.there
  where
    by : IsIn listed.entry (g ∷ gs) → (g.tx ≡ tx) ⊎ IsListed tx (remove (g ∷ gs) 0)
    by (inl is) = inl (ap (λ (q : Gathered). q.tx) (sym is) ∙ listed.own)
    by (inr rest) =
        inr (record { entry = listed.entry; there = rest; own = listed.own; committed = listed.committed })

none_listed : (tx : TxId) → IsListed tx [] → ⊥
none_listed tx listed = listed.there

module _ (O : TxId → Type 0) where
  -- what is so of a takeover
  pub record TellsAll (T : TxId → Type 0) (s : TakeoverState) : Type 0 where
    pub attended : IsAttended O T s.stage s.gathered
    pub first : IsFirstSaid O T s.stage (slice_get s.gathered 0)

  -- what was said stays so
  attended_more : (T V : TxId → Type 0) → ((tx : TxId) → T tx → V tx) → (gs : List Gathered) → AreAttended O T gs
      → AreAttended O V gs
  attended_more T V more gs all tx orphan = by (all tx orphan)
    where
      by : T tx ⊎ IsListed tx gs → V tx ⊎ IsListed tx gs
      by (inl said) = inl (more tx said)
      by (inr listed) = inr listed

  stage_more : (T V : TxId → Type 0) → ((tx : TxId) → T tx → V tx) → (stage : Stage) (gs : List Gathered)
      → IsAttended O T stage gs → IsAttended O V stage gs
  stage_more T V more Resting gs all = tt
  stage_more T V more (Gathering n) gs all = tt
  stage_more T V more (Committing e n) gs all = attended_more T V more gs all
  stage_more T V more (Completing e n) gs all = attended_more T V more gs all
  stage_more T V more (Aborting n) gs all = attended_more T V more gs all

  first_more : (T V : TxId → Type 0) → ((tx : TxId) → T tx → V tx) → (stage : Stage) (first : Option Gathered)
      → IsFirstSaid O T stage first → IsFirstSaid O V stage first
  first_more T V more (Completing e n) (Some g) said = more g.tx said
  first_more T V more (Completing e n) None said = tt
  first_more T V more Resting first said = tt
  first_more T V more (Gathering n) first said = tt
  first_more T V more (Committing e n) first said = tt
  first_more T V more (Aborting n) first said = tt

  pub tells_more : (T V : TxId → Type 0) → ((tx : TxId) → T tx → V tx) → (s : TakeoverState) → TellsAll T s
      → TellsAll V s
  tells_more T V more s own = record {
    attended = stage_more T V more s.stage s.gathered own.attended;
    first = first_more T V more s.stage (slice_get s.gathered 0) own.first;
  }

module _ (O S : TxId → Type 0) where
  -- of whom it is said once these are sent
  abbrev pub SaidBy : List Outgoing → TxId → Type 0
  SaidBy sends tx = S tx ⊎ IsToldIn tx sends

  -- it says that it is complete when it is said of each
  abbrev pub IsLast : Body → Type 0
  IsLast (Client NfCompleteRep) = (tx : TxId) → O tx → S tx
  IsLast body = Unit {0}

  abbrev IsLastSend : Outgoing → Type 0
  IsLastSend sent = IsLast sent.body

  abbrev pub AreLast : List Outgoing → Type 0
  AreLast sends = Each (λ (sent : Outgoing). IsLast sent.body) sends

  pub record TellsOn (step : Step TakeoverState) : Type 0 where
    pub state : TellsAll O (SaidBy step.effects.sends) step.state
    pub sends : AreLast step.effects.sends

  -- lists that don't say that it is complete
  rest_last : (by : Place) (w : Work) (at : ℕ) (b : Bool) → AreLast (rest_if by w at b)
  rest_last by w at true = (tt, tt)
  rest_last by w at false = tt

  portion_last : (by : Place) (w : Work) (sends : List Outgoing) (at : ℕ) → AreLast sends
      → AreLast (portion_effects by w sends at).sends
  portion_last by w sends at all =
      each_append IsLastSend (take PORTION (drop at sends)) (rest_if by w at (nat_lt (at + PORTION) (length sends)))
      (each_take IsLastSend PORTION (drop at sends) (each_drop IsLastSend at sends all))
      (rest_last by w at (nat_lt (at + PORTION) (length sends)))

  asks_last : (node : ℕ) (view : View) (at : ℕ) → AreLast (ask_effects node view at).sends
  unfolding ask_effects asks_of
  asks_last node view at =
      portion_last (takeover node) work.Members (asks_of view) at
      (each_append IsLastSend (map ask_of view.full) (map ask_of view.starting)
      (each_mapped IsLastSend ask_of view.full (λ m. tt)) (each_mapped IsLastSend ask_of view.starting (λ m. tt)))

  along_last : (tx : TxId) (stage : Stage) (key : List ℕ) (layout : Layout)
      → AreLast (key_sends_along tx stage key (chain_of layout key))
  along_last tx Resting key layout = tt
  along_last tx (Gathering n) key layout = tt
  along_last tx (Committing epoch n) key layout = (tt, tt)
  along_last tx (Completing epoch n) key layout = (tt, tt)
  along_last tx (Aborting n) key layout = each_mapped IsLastSend (abort_at tx key) (chain_of layout key) (λ m. tt)

  key_last : (layout : Layout) (tx : TxId) (stage : Stage) (key : List ℕ) → AreLast (key_sends layout tx stage key)
  unfolding key_sends
  key_last layout tx stage key = along_last tx stage key layout

  front_last : (tx : TxId) (stage : Stage) → AreLast (front_sends tx stage)
  unfolding front_sends
  front_last tx Resting = tt
  front_last tx (Gathering n) = tt
  front_last tx (Committing epoch n) = tt
  front_last tx (Completing epoch n) = (tt, tt)
  front_last tx (Aborting n) = tt

  stage_last : (node : ℕ) (layout : Layout) (stage : Stage) (g : Gathered) (at : ℕ)
      → AreLast (stage_effects node layout stage g at).sends
  unfolding stage_effects stage_sends
  stage_last node layout stage g at =
      portion_last (takeover node) (work.Transaction g.tx) (stage_sends layout stage g) at
      (each_append IsLastSend (front_sends g.tx stage) (flat_map (key_sends layout g.tx stage) g.keys)
      (front_last g.tx stage)
      (each_flat IsLastSend (key_sends layout g.tx stage) g.keys (key_last layout g.tx stage)))

  -- the client's side is told when a transaction begins to be completed
  front_told : (node : ℕ) (layout : Layout) (epoch n : ℕ) (g : Gathered)
      → IsToldIn g.tx (stage_effects node layout (Completing epoch n) g 0).sends
  unfolding stage_effects stage_sends front_sends
  front_told node layout epoch n g = record { epoch = epoch; there = inl refl }

  enters_on : (s : TakeoverState) (g : Gathered) (stage : Stage) → AreAttended O S s.gathered
      → IsFirstSaid O (SaidBy (entering s g stage).effects.sends) stage (slice_get s.gathered 0)
      → TellsOn (entering s g stage)
  unfolding entering
  enters_on s g stage all first = record {
    state = record {
      attended =
          at_stage stage
          (attended_more O S (SaidBy (stage_effects s.node s.layout stage g 0).sends) (λ tx said. inl said) s.gathered
          all);
      first = first;
    };
    sends = stage_last s.node s.layout stage g 0;
  }
    where
      at_stage : (stage : Stage) → {T : TxId → Type 0} → AreAttended O T s.gathered → IsAttended O T stage s.gathered
      at_stage Resting all = tt
      at_stage (Gathering n) all = tt
      at_stage (Committing e n) all = all
      at_stage (Completing e n) all = all
      at_stage (Aborting n) all = all

  -- the first of the transactions is ruled on
  rules_on : (s : TakeoverState) → AreAttended O S s.gathered → TellsOn (ruling s)
  unfolding ruling way_of entering
  rules_on s all = by (slice_get s.gathered 0) refl
    where
      none_left : (gs : List Gathered) → slice_get gs 0 ≡ None → (tx : TxId) → S tx ⊎ IsListed tx gs → S tx
      none_left [] is tx (inl said) = said
      none_left [] is tx (inr listed) = absurd (none_listed tx listed)
      none_left (g ∷ gs) is tx either = absurd cc

      way : (T : TxId → Type 0) (g : Gathered) (o : Option ℕ)
          → IsFirstSaid O T (way_by s.layout g.keys o) (slice_get s.gathered 0)
      way T g None = tt
      way T g (Some epoch) = tt

      by : (first : Option Gathered) → slice_get s.gathered 0 ≡ first → TellsOn (ruling_by s first)
      by None is = record {
        state = record { attended = tt; first = tt };
        sends = ((λ tx orphan. none_left s.gathered is tx (all tx orphan)), (tt, tt));
      }
      by (Some g) is = enters_on s g (way_of s.layout g) all (way _ g g.epoch)

  -- the first of them is done with
  finishes_on : (s : TakeoverState) → AreAttended O S s.gathered
      → ((g : Gathered) → slice_get s.gathered 0 ≡ Some g → S g.tx) → TellsOn (finishing s)
  unfolding finishing
  finishes_on s all first =
      rules_on (with_gathered s (remove s.gathered 0)) (λ tx orphan. by s.gathered first tx (all tx orphan))
    where
      by : (gs : List Gathered) → ((g : Gathered) → slice_get gs 0 ≡ Some g → S g.tx) → (tx : TxId)
          → S tx ⊎ IsListed tx gs → S tx ⊎ IsListed tx (remove gs 0)
      by gs first tx (inl said) = inl said
      by [] first tx (inr listed) = absurd (none_listed tx listed)
      by (g ∷ gs) first tx (inr listed) = which (listed_rest g gs tx listed)
        where
          which : (g.tx ≡ tx) ⊎ IsListed tx (remove (g ∷ gs) 0) → S tx ⊎ IsListed tx (remove (g ∷ gs) 0)
          which (inl is) = inl (subst S is (first g refl))
          which (inr rest) = inr rest

  module _ (s : TakeoverState) (own : TellsAll O S s) (back : IsAbortingAt S s.stage (slice_get s.gathered 0)) where
    -- nothing is sent, or nothing of it
    stays_on : (s2 : TakeoverState) → s2.stage ≡ s.stage → s2.gathered ≡ s.gathered → (sends : List Outgoing)
        → TellsAll O (SaidBy sends) s2
    stays_on s2 stage gathered sends =
        let now = tells_more O S (SaidBy sends) (λ tx said. inl said) s own in
        record {
          attended =
              subst (λ st. IsAttended O (SaidBy sends) st s2.gathered) (sym stage)
              (subst (λ gs. IsAttended O (SaidBy sends) s.stage gs) (sym gathered) now.attended);
          first =
              subst (λ st. IsFirstSaid O (SaidBy sends) st (slice_get s2.gathered 0)) (sym stage)
              (subst (λ gs. IsFirstSaid O (SaidBy sends) s.stage (slice_get gs 0)) (sym gathered) now.first);
        }

    -- what is so at a stage
    attended_at : (stage : Stage) → s.stage ≡ stage → IsAttended O S stage s.gathered
    attended_at stage at = subst (λ st. IsAttended O S st s.gathered) at own.attended

    first_at : (stage : Stage) → s.stage ≡ stage → (g : Gathered) → slice_get s.gathered 0 ≡ Some g
        → IsFirstSaid O S stage (Some g)
    first_at stage at g is =
        subst (λ o. IsFirstSaid O S stage o) is
        (subst (λ st. IsFirstSaid O S st (slice_get s.gathered 0)) at own.first)

    back_at : (n : ℕ) → s.stage ≡ Aborting n → (g : Gathered) → slice_get s.gathered 0 ≡ Some g → S g.tx
    back_at n at g is =
        subst (λ o. IsAbortingAt S (Aborting n) o) is
        (subst (λ st. IsAbortingAt S st (slice_get s.gathered 0)) at back)

    no_sends : (gs : List Gathered) → AreAttended O S gs → AreAttended O (SaidBy []) gs
    no_sends gs all = attended_more O S (SaidBy []) (λ tx said. inl said) gs all

    completing_on : (e n : ℕ) → s.stage ≡ Completing e n
        → IsFirstSaid O (SaidBy []) (Completing e (n - 1)) (slice_get s.gathered 0)
    completing_on e n at = by (slice_get s.gathered 0) refl
      where
        by : (o : Option Gathered) → slice_get s.gathered 0 ≡ o → IsFirstSaid O (SaidBy []) (Completing e (n - 1)) o
        by None is = tt
        by (Some g) is = inl (first_at (Completing e n) at g is)

    -- while it gathers nothing is claimed
    gathering : (n : ℕ) → s.stage ≡ Gathering n → (gs : List Gathered) → TellsAll O (SaidBy []) (with_gathered s gs)
    gathering n at gs = record {
      attended = subst (λ st. IsAttended O (SaidBy []) st gs) (sym at) tt;
      first = subst (λ st. IsFirstSaid O (SaidBy []) st (slice_get gs 0)) (sym at) tt;
    }

    told_more : (sends : List Outgoing) → (o : Outgoing) → (tx : TxId) → SaidBy sends tx → SaidBy (o ∷ sends) tx
    told_more sends o tx (inl said) = inl said
    told_more sends o tx (inr told) = inr (record { epoch = told.epoch; there = inr told.there })

    -- where members are asked, and all that have to end do, whatever it takes
    pub goes_on_telling : (x : Signal) → ((member_count s.layout.view == 0) ≡ true → ⊥)
        → ((n : ℕ) → x.body ≡ Takeover LqhTransEnd → s.stage ≡ Gathering n → nat_lt 1 n ≡ false → AreAttended O S
        s.gathered)
        → TellsOn (takeover_row s x)
    unfolding entering
    goes_on_telling x some closes =
        takeover_each s TellsOn x.body (record {
          stays = λ off. record { state = stays_on s refl refl []; sends = tt };
          untold = λ tx key state epoch is off. record { state = stays_on s refl refl []; sends = tt };
          unended = λ is off. record { state = stays_on s refl refl []; sends = tt };
          orders = λ is members. record {
            state = record { attended = tt; first = tt };
            sends = asks_last s.node s.layout.view 0;
          };
          orders_nobody = λ is none. absurd (some none);
          asks = λ place n is due at. record {
            state = stays_on _ refl refl (ask_effects s.node s.layout.view place).sends;
            sends = asks_last s.node s.layout.view place;
          };
          tells = λ tx key state epoch n is at. record { state = gathering n at _; sends = tt };
          ends = λ n is at more. record { state = record { attended = tt; first = tt }; sends = tt };
          all_end = λ n is at last. rules_on s (closes n is at last);
          commits = λ tx key g e n is first at more. record {
            state = record { attended = no_sends s.gathered (attended_at (Committing e n) at); first = tt };
            sends = tt;
          };
          all_commit = λ tx key g e n is first at last.
              enters_on s g (Completing e (length g.keys)) (attended_at (Committing e n) at)
              (subst
              (λ o. IsFirstSaid O (SaidBy (stage_effects s.node s.layout (Completing e (length g.keys)) g 0).sends)
              (Completing e (length g.keys)) o)
              (sym (first_found s.gathered tx g first).there)
              (inr (front_told s.node s.layout e (length g.keys) g)));
          completes = λ tx key g e n is first at more. record {
            state = record {
              attended = no_sends s.gathered (attended_at (Completing e n) at);
              first = completing_on e n at;
            };
            sends = tt;
          };
          all_complete = λ tx key g e n is first at last.
              finishes_on s (attended_at (Completing e n) at) (λ u there. first_at (Completing e n) at u there);
          aborts = λ tx key g n is first at more. record {
            state = record { attended = no_sends s.gathered (attended_at (Aborting n) at); first = tt };
            sends = tt;
          };
          all_abort = λ tx key g n is first at last.
              let done = finishes_on s (attended_at (Aborting n) at) (λ u there. back_at n at u there) in
              record {
                state =
                    tells_more O (SaidBy (finishing s).effects.sends) _
                    (λ v said. told_more (finishing s).effects.sends _ v said) (finishing s).state done.state;
                sends = (tt, done.sends);
              };
          goes_on = λ tx place g is due at first. record {
            state = stays_on _ refl refl (stage_effects s.node s.layout s.stage g place).sends;
            sends = stage_last s.node s.layout s.stage g place;
          };
        })
