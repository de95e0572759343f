-- A takeover completes keys, and tells the client's side of a commit, when each key that the transaction wrote was
-- committed in its view, or the client's side knows of the commit.
use Rattle.std.proofs.Common.{◌≡◌, ◌⊎◌, ◌+◌, ◌||◌, ◌∙◌, ℕ, Bool, true, false, None, Some, Option, List, [], ◌∷◌, drop}
use Rattle.std.proofs.Common.{inl, inr, length, map, nat_lt, refl, sym, ap, subst, take, ◌≤◌, arith}
use Rattle.std.proofs.lemmas.Bool.{true≢false}
use Rattle.std.specs.List.{flat_map}
use Rattle.std.specs.Prelude.{remove, slice_get}
use Rattle.run_theory.specs.Lists.{Each, IsIn}
use Rattle.run_theory.proofs.EachSent.{each_drop, each_flat, each_get, each_mapped, each_take}
use Rattle.run_theory.proofs.Pasts.{each_append, each_map}
use Rattle.sig_core.specs.declared.member.Member.{Member}
use Rattle.sig_core.specs.declared.member.TxId.{TxId}
use Rattle.sig_core.specs.declared.outs.Outgoing.{Outgoing}
use Rattle.sig_core.specs.declared.place.BlockId.TheVariants as block
use Rattle.sig_core.specs.declared.place.Place.{Place}
use Rattle.sig_core.specs.declared.portion.TheConstants.{PORTION}
use Rattle.sig_core.specs.declared.signal.Body.TheVariants.{Chain}
use Rattle.sig_core.specs.declared.signal.Signal.{Signal}
use Rattle.sig_core.specs.declared.signal.chain.ChainSignal.TheVariants.{Committed}
use Rattle.sig_core.specs.declared.signal.host.Work.{Work}
use Rattle.sig_core.specs.declared.signal.host.Work.TheVariants as work
use Rattle.sig_core.specs.declared.view.View.{View}
use Rattle.sig_core.specs.Place.{takeover}
use Rattle.sig_core.specs.Portion.{portion_effects, rest_if}
use Rattle.sig_core.specs.Same.{same_key}
use Rattle.frag_map.specs.Layout.{Layout, chain_of}
use Rattle.row_records.proofs.KeyLemmas.{same as same_key-is}
use Rattle.takeover_block.specs.declared.gathered.Gathered.{Gathered}
use Rattle.takeover_block.specs.declared.stage.Stage.{Stage}
use Rattle.takeover_block.specs.declared.stage.Stage.TheVariants.{Aborting, Committing, Completing, Gathering, Resting}
use Rattle.takeover_block.specs.Gathered.{first_of}
use Rattle.takeover_block.specs.Keys.{has_key}
use Rattle.takeover_block.specs.Rule.{entering, finishing, is_at_work, ruling, ruling_by, way_by, way_of}
use Rattle.takeover_block.specs.Sends.{abort_at, ask_effects, ask_of, asks_of, front_sends, key_sends, key_sends_along}
use Rattle.takeover_block.specs.Sends.{stage_effects, stage_sends}
use Rattle.takeover_block.specs.State.{TakeoverState, with_gathered}
use Rattle.takeover_block.specs.Takeover.{takeover_row}
use Rattle.takeover_block.proofs.EachTakeover.{takeover_each}
use Rattle.takeover_block.proofs.LawLemmas.{first_found}
use Rattle.node_views.specs.declared.parts.Parts.TheVariants as part
use Rattle.node_views.specs.declared.tc_part.TcPart.{TcPart}
use Rattle.node_views.specs.Parts.{tc_row}
use Rattle.world_core.specs.Start.{Start, made}
use Rattle.world_core.specs.Steps.{HostStep}
use Rattle.view_laws.specs.Runs.{view_after}
use Rattle.moment_laws.specs.Moments.{IsMoment, logs_of}
use Rattle.moment_laws.specs.Parts.{IsPassed}
use Rattle.moment_laws.specs.Places.{tc_of}
use Rattle.moment_laws.proofs.MomentHosts.{tc_low}
use Rattle.moment_laws.proofs.MomentTurns.{current_rises}
use Rattle.moment_laws.proofs.MomentViews.{current_above, current_number, moment_less, number_in}
use Rattle.moment_laws.proofs.PartTaken.{IsTakenNow}
use Rattle.request_laws.specs.Blocks.{takeover_after}
use Rattle.request_laws.proofs.routes.PartSteps.{TcStep}
use Rattle.commit_laws.specs.Answered.{AllWereCommittedIn, IsAnswered, WasCommittedIn}
use Rattle.commit_laws.specs.Commits.{IsKept}
use Rattle.commit_laws.specs.Fates.{aborts, commits, fate}
use Rattle.commit_laws.specs.Takeovers.{FirstIs, HasAllKeys, IsRuled, IsWhole, TakeoverStands, takeover_at}
use Rattle.commit_laws.specs.Together.{Follows}
use Rattle.commit_laws.specs.Traces.{is_known}
use Rattle.commit_laws.proofs.answered.Rulings.{HeardAt, IsHeard, Remains, first_was, heard_always, last_word, remained}
use Rattle.commit_laws.proofs.answered.Rulings.{taken_by, was_between}
use Rattle.commit_laws.proofs.answered.Stays.{committed_stays}
use Rattle.commit_laws.proofs.forth.DecidedStay.{unknown_before, written_before}
use Rattle.commit_laws.proofs.drive.Foreign.{step}
use Rattle.commit_laws.proofs.fates.Forth.{fate_decided}

-- a key that is among these has what each of them has
of_key : (P : List ℕ → Type 0) (keys : List (List ℕ)) (key : List ℕ) → has_key keys key ≡ true → Each P keys → P key
of_key P [] key is all = absurd (true≢false (sym is))
of_key P (own ∷ keys) key is all = by (same_key key own) refl is (λ rest. of_key P keys key rest all.1)
  where
    by : (b : Bool) → same_key key own ≡ b → (b || has_key keys key) ≡ true → (has_key keys key ≡ true → P key) → P key
    by true same is rest = subst P (sym (same_key-is key own same)) all.0
    by false off is rest = rest is

-- the takeover commits its transaction, or completes it
abbrev commits_in : Stage → Bool
commits_in (Committing epoch awaited) = true
commits_in (Completing epoch awaited) = true
commits_in stage = false

-- what is sent is answered, in the view of this number
module _ (start : Start) (logs : ℕ → List HostStep) (number : ℕ) where
  abbrev Good : Outgoing → Type 0
  Good o = IsAnswered start logs number o.body

  abbrev pub AreAnswered : List Outgoing → Type 0
  AreAnswered sends = Each (λ (o : Outgoing). IsAnswered start logs number o.body) sends

  -- of whom it completes
  abbrev pub Answers : TxId → Type 0
  Answers tx = AllWereCommittedIn start logs number tx ⊎ (is_known start logs tx ≡ true)

  abbrev Right : Stage → Gathered → Type 0
  Right (Completing epoch awaited) g = Answers g.tx
  Right stage g = Unit {0}

  rest_answered : (by : Place) (w : Work) (at : ℕ) (b : Bool) → AreAnswered (rest_if by w at b)
  rest_answered by w at true = (tt, tt)
  rest_answered by w at false = tt

  portion_answered : (by : Place) (w : Work) (sends : List Outgoing) (at : ℕ) → AreAnswered sends
      → AreAnswered (portion_effects by w sends at).sends
  portion_answered by w sends at all =
      each_append Good (take PORTION (drop at sends)) (rest_if by w at (nat_lt (at + PORTION) (length sends)))
      (each_take Good PORTION (drop at sends) (each_drop Good at sends all))
      (rest_answered by w at (nat_lt (at + PORTION) (length sends)))

  asks_answered : (node : ℕ) (view : View) (at : ℕ) → AreAnswered (ask_effects node view at).sends
  unfolding ask_effects asks_of
  asks_answered node view at =
      portion_answered (takeover node) work.Members (asks_of view) at
      (each_append Good (map ask_of view.full) (map ask_of view.starting)
      (each_mapped Good ask_of view.full (λ m. tt)) (each_mapped Good ask_of view.starting (λ m. tt)))

  along_answered : (g : Gathered) (stage : Stage) (key : List ℕ) (layout : Layout) → Right stage g
      → AreAnswered (key_sends_along g.tx stage key (chain_of layout key))
  along_answered g Resting key layout right = tt
  along_answered g (Gathering n) key layout right = tt
  along_answered g (Committing epoch n) key layout right = (tt, tt)
  along_answered g (Completing epoch n) key layout right = (right, tt)
  along_answered g (Aborting n) key layout right = each_mapped Good (abort_at g.tx key) (chain_of layout key) (λ m. tt)

  key_answered : (layout : Layout) (g : Gathered) (stage : Stage) → Right stage g → (key : List ℕ)
      → AreAnswered (key_sends layout g.tx stage key)
  unfolding key_sends
  key_answered layout g stage right key = along_answered g stage key layout right

  front_answered : (g : Gathered) (stage : Stage) → Right stage g → AreAnswered (front_sends g.tx stage)
  unfolding front_sends
  front_answered g Resting right = tt
  front_answered g (Gathering n) right = tt
  front_answered g (Committing epoch n) right = tt
  front_answered g (Completing epoch n) right = (right, tt)
  front_answered g (Aborting n) right = tt

  stage_answered : (node : ℕ) (layout : Layout) (stage : Stage) (g : Gathered) (at : ℕ) → Right stage g
      → AreAnswered (stage_effects node layout stage g at).sends
  unfolding stage_effects stage_sends
  stage_answered node layout stage g at right =
      portion_answered (takeover node) (work.Transaction g.tx) (stage_sends layout stage g) at
      (each_append Good (front_sends g.tx stage) (flat_map (key_sends layout g.tx stage) g.keys)
      (front_answered g stage right)
      (each_flat Good (key_sends layout g.tx stage) g.keys (key_answered layout g stage right)))

  enters : (s : TakeoverState) (g : Gathered) (stage : Stage) → Right stage g
      → AreAnswered (entering s g stage).effects.sends
  unfolding entering
  enters s g stage right = stage_answered s.node s.layout stage g 0 right

  -- nobody is completed as he is ruled on
  way_right : (layout : Layout) (g : Gathered) → Right (way_of layout g) g
  unfolding way_of
  way_right layout g = by g.epoch
    where
      by : (epoch : Option ℕ) → Right (way_by layout g.keys epoch) g
      by (Some epoch) = tt
      by None = tt

  rules_answered : (s : TakeoverState) → AreAnswered (ruling s).effects.sends
  unfolding ruling
  rules_answered s = by (slice_get s.gathered 0)
    where
      by : (first : Option Gathered) → AreAnswered (ruling_by s first).effects.sends
      by None = (tt, (tt, tt))
      by (Some g) = enters s g (way_of s.layout g) (way_right s.layout g)

  finishes_answered : (s : TakeoverState) → AreAnswered (finishing s).effects.sends
  unfolding finishing
  finishes_answered s = rules_answered (with_gathered s (remove s.gathered 0))

  -- whatever it takes, where this is so of whom it completes, and of whom it has committed by now
  module _ (s : TakeoverState) (x : Signal)
      (completes : (tx : TxId) (g : Gathered) (epoch n : ℕ) → slice_get s.gathered 0 ≡ Some g
      → s.stage ≡ Completing epoch n → Answers g.tx)
      (committed : (tx : TxId) (key : List ℕ) (g : Gathered) (epoch n : ℕ) → x.body ≡ Chain (Committed tx key)
      → slice_get s.gathered 0 ≡ Some g → g.tx ≡ tx → s.stage ≡ Committing epoch n → nat_lt 1 n ≡ false → Answers g.tx)
    where
      going : (tx : TxId) (g : Gathered) → first_of s.gathered tx ≡ Some g → Right s.stage g
      going tx g first = by s.stage refl
        where
          by : (stage : Stage) → s.stage ≡ stage → Right stage g
          by (Completing epoch n) is = completes tx g epoch n (first_found s.gathered tx g first).there is
          by Resting is = tt
          by (Gathering n) is = tt
          by (Committing epoch n) is = tt
          by (Aborting n) is = tt

      pub row_answered : AreAnswered (takeover_row s x).effects.sends
      row_answered =
          takeover_each s (λ step. AreAnswered step.effects.sends) x.body (record {
            stays = λ off. tt;
            untold = λ tx key state epoch is off. tt;
            unended = λ is off. tt;
            orders = λ is some. asks_answered s.node s.layout.view 0;
            orders_nobody = λ is none. rules_answered _;
            asks = λ place n is due at. asks_answered s.node s.layout.view place;
            tells = λ tx key state epoch n is at. tt;
            ends = λ n is at more. tt;
            all_end = λ n is at last. rules_answered s;
            commits = λ tx key g e n is first at more. tt;
            all_commit = λ tx key g e n is first at last.
                let found = first_found s.gathered tx g first in
                enters s g (Completing e (length g.keys)) (committed tx key g e n is found.there found.own at last);
            completes = λ tx key g e n is first at more. tt;
            all_complete = λ tx key g e n is first at last. finishes_answered s;
            aborts = λ tx key g n is first at more. tt;
            all_abort = λ tx key g n is first at last. (tt, finishes_answered s);
            goes_on = λ tx place g is due at first. stage_answered s.node s.layout s.stage g place (going tx g first);
          })

-- an event of its host
module _ (start : Start) (all : ℕ → List HostStep) (e : HostStep) (es : List HostStep)
    (follows : Follows start all e es) (member : Member) (there : IsIn member (made start))
  where
    abbrev old : ℕ → List HostStep
    old = logs_of start es

    abbrev new : ℕ → List HostStep
    new = logs_of start (e ∷ es)

    abbrev moment : IsMoment start all (e ∷ es)
    moment = follows.moment

    abbrev number : ℕ
    number = (view_after start e.host (e ∷ logs_of start es e.host)).number

    less : IsMoment start all es
    less = moment_less start all e es follows.moment

    stood_so : TakeoverStands start old member
    stood_so = follows.stood.takeovers.each member there

    -- whom a takeover commits, and where each key of it that was gathered was committed, of him this is so of all
    module _ (here : number_in start old (tc_of start member) ≡ current_number start old) (g : Gathered)
        (first : slice_get (takeover_at start old member).gathered 0 ≡ Some g) (stage : Stage)
        (stage_is : (takeover_at start old member).stage ≡ stage) (at_commit : commits_in stage ≡ true)
        (were : Each (λ (key : List ℕ). WasCommittedIn start new number g.tx key) g.keys)
      where
        fated : fate start old g.tx ≡ commits
        fated =
            by stage at_commit
            (subst (λ (st : Stage). IsRuled start old st g) stage_is
            (subst (FirstIs start old (IsRuled start old (takeover_at start old member).stage)) first
            (stood_so.ruled here)))
          where
            by : (st : Stage) → commits_in st ≡ true → IsRuled start old st g → fate start old g.tx ≡ commits
            by (Committing epoch n) is ruled = ruled.0
            by (Completing epoch n) is ruled = ruled.0
            by Resting is ruled = absurd (true≢false (sym is))
            by (Gathering n) is ruled = absurd (true≢false (sym is))
            by (Aborting n) is ruled = absurd (true≢false (sym is))

        kept : IsKept start old g.tx
        kept = record {
          decided = fate_decided start all es less g.tx fated;
          fate_is = λ is. absurd (let both : commits ≡ aborts = sym fated ∙ is in cc);
        }

        has_all : HasAllKeys start old g
        has_all =
            by stage at_commit
            (subst (λ (st : Stage). IsWhole start old st g) stage_is
            (each_get (IsWhole start old (takeover_at start old member).stage)
            (takeover_at start old member).gathered 0 g (stood_so.whole here) first))
          where
            by : (st : Stage) → commits_in st ≡ true → IsWhole start old st g → HasAllKeys start old g
            by (Committing epoch n) is whole = whole
            by (Completing epoch n) is whole = whole
            by Resting is whole = absurd (true≢false (sym is))
            by (Gathering n) is whole = absurd (true≢false (sym is))
            by (Aborting n) is whole = absurd (true≢false (sym is))

        answers : Answers start new number g.tx
        answers = by (is_known start new g.tx) refl
          where
            by : (b : Bool) → is_known start new g.tx ≡ b → Answers start new number g.tx
            by true known = inr known
            by false unknown =
                inl
                (λ key written.
                of_key (WasCommittedIn start new number g.tx) g.keys key
                (has_all kept (unknown_before start all e es moment g.tx unknown) key
                (written_before start all e es moment g.tx key kept.decided written))
                were)

    module _ (at : e.host ≡ tc_of start member) where
      abbrev log : List HostStep
      log = logs_of start es e.host

      abbrev x : Signal
      x = e.step.taken

      abbrev view : View
      view = view_after start e.host (e ∷ logs_of start es e.host)

      abbrev tc : TcStep start e.host log e
      tc = step start all e es follows.moment member there at

      abbrev between : TcPart
      between = tc.does.between

      -- the takeover takes the signal
      module _ (passed : IsPassed start.shape (part.Tc between) view x) (to : x.to.block ≡ block.Takeover) where
        taken : IsTakenNow start all e es moment block.Takeover
        taken = taken_by start all e es moment member there at block.Takeover to passed

        was : IsHeard start old view.number log between.takeover.stage (slice_get between.takeover.gathered 0)
        was =
            was_between start all e es moment member there at
            (subst (λ h. HeardAt start member old h (old h)) (sym at) (heard_always start all member there es less))

        -- one that is at work stood in the current view before
        module _ (so : Remains start all e es moment member there at) where
          here_so : number_in start old (tc_of start member) ≡ current_number start old
          here_so = omega (arith, so.number_is, own_stood, low, rises, now)
            where
              own_stood : (view_after start e.host (old e.host)).number ≡ number_in start old (tc_of start member)
              own_stood = ap (λ h. (view_after start h (old h)).number) at

              low : number_in start old (tc_of start member) ≤ current_number start old
              low = current_above start old follows.moment.cluster.nobody (tc_of start member)
                  (tc_low start follows.moment.cluster.nobody member there)

              rises : current_number start old ≤ current_number start new
              rises = current_rises start all e es moment

              now : view.number ≡ current_number start new
              now = ap (λ (v : View). v.number) taken.stands

          same : takeover_at start old member ≡ between.takeover
          same = ap (λ h. takeover_after start member (old h)) (sym at) ∙ sym so.same

          answers_so : (g : Gathered) → slice_get between.takeover.gathered 0 ≡ Some g → (stage : Stage)
              → between.takeover.stage ≡ stage → commits_in stage ≡ true
              → Each (λ (key : List ℕ). WasCommittedIn start new number g.tx key) g.keys → Answers start new number g.tx
          answers_so g first stage stage_is at_commit were =
              answers here_so g (ap (λ (s : TakeoverState). slice_get s.gathered 0) same ∙ first) stage
              (ap (λ (s : TakeoverState). s.stage) same ∙ stage_is) at_commit were

        -- so all that it sends is answered
        pub takeover_answered : Each (λ (o : Outgoing). IsAnswered start (logs_of start (e ∷ es))
            (view_after start e.host (e ∷ logs_of start es e.host)).number o.body)
            (tc_row (step start all e es follows.moment member there at).does.between block.Takeover
            e.step.taken).effects.sends
        unfolding tc_row
        takeover_answered =
            row_answered start new number between.takeover x
            (λ tx g epoch n first stage_is.
            answers_so (remained start all e es moment member there at tc.does.enters (ap is_at_work stage_is)) g first
            (Completing epoch n) stage_is refl
            (each_map (λ (key : List ℕ). WasCommittedIn start old number g.tx key)
            (λ (key : List ℕ). WasCommittedIn start new number g.tx key) g.keys
            (λ key one. committed_stays start all e es moment number g.tx key one)
            (first_was start all e es moment member there at taken was tx g first (Completing epoch n) stage_is)))
            (λ tx key g epoch n is first own_tx stage_is last.
            answers_so (remained start all e es moment member there at tc.does.enters (ap is_at_work stage_is)) g first
            (Committing epoch n) stage_is refl
            (last_word start all e es moment member there at taken was tx key g epoch n is first own_tx stage_is last))
