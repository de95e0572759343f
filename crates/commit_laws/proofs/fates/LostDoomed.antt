-- Whom a step of a coordinator leaves doomed.
use Rattle.std.proofs.Common.{◌≡◌, ◌⊎◌, ◌∙◌, ◌||◌, ◌&&◌, ◌++◌, ◌==◌, nat_lt, ℕ, Bool, true, false, cond, position, List}
use Rattle.std.proofs.Common.{[], ◌∷◌, refl, sym, ap, subst, inl, inr}
use Rattle.std.proofs.lemmas.Bool.{true≢false}
use Rattle.std.specs.List.{list_any}
use Rattle.std.specs.Map.{keys_of}
use Rattle.std.specs.Prelude.{if◌then◌else◌, Option, None, Some, is_some}
use Rattle.run_theory.specs.Lists.{IsIn}
use Rattle.run_theory.proofs.Pasts.{each_in, each_from}
use Rattle.sig_core.specs.declared.member.TxId.{TxId}
use Rattle.sig_core.specs.declared.signal.Body.{Body}
use Rattle.sig_core.specs.declared.signal.Body.TheVariants.{Client, Epoch, Host, Membership}
use Rattle.sig_core.specs.declared.signal.client.ClientSignal.TheVariants.{TcKeyReq, TcRollbackReq}
use Rattle.sig_core.specs.declared.signal.epoch.EpochSignal.TheVariants.{DiVerifyConf}
use Rattle.sig_core.specs.declared.signal.host.HostSignal.TheVariants.{Continue}
use Rattle.sig_core.specs.declared.signal.host.Work.TheVariants as work
use Rattle.sig_core.specs.declared.signal.host.Work.TheVariants.{Installation}
use Rattle.sig_core.specs.declared.signal.membership.MembershipSignal.TheVariants.{FenceReq}
use Rattle.sig_core.specs.declared.signal.Signal.{Signal}
use Rattle.sig_core.specs.declared.view.View.{View}
use Rattle.sig_core.specs.Same.{same_tx}
use Rattle.sig_core.specs.Step.{stay}
use Rattle.sig_core.proofs.Firsts.{place_by, position-cons}
use Rattle.sig_core.proofs.Keys.{same_tx-self}
use Rattle.sig_core.proofs.TxLemmas.{same_tx-is, same_tx-swap}
use Rattle.host_laws.specs.Live.{of_live}
use Rattle.host_laws.proofs.coordinator.OfLive.{each_found}
use Rattle.tc_block.specs.declared.task.Task.{Task}
use Rattle.tc_block.specs.declared.transaction.Transaction.{Transaction}
use Rattle.tc_block.specs.Doom.{doomed_if, doomed_in, is_among, is_doomed_by, is_undecided}
use Rattle.tc_block.specs.Doom.{strays as strays_from}
use Rattle.tc_block.specs.Live.{is_live}
use Rattle.tc_block.specs.State.{TcState}
use Rattle.tc_block.proofs.LiveSplit.{KeysOnce, Live}
use Rattle.tc_views.specs.Coordinator.{calm_unless, coordinator_row, coordinator_table, is_to_fail}
use Rattle.tc_views.specs.State.{CoordinatorState, still_live, within}
use Rattle.tc_views.specs.Views as coordinator
use Rattle.tc_views.specs.Views.{fence_row}
use Rattle.request_laws.specs.Ways.{entry_of}
use Rattle.request_laws.proofs.strays.DoomedInSteps.{dooms, stays_doomed}

-- the entry of a transaction stands among them
found_in : (live : Live) (tx : TxId) (t : Transaction) → of_live tx live ≡ Some t → IsIn (tx, t) live
found_in live tx t is =
    each_found (λ (e : TxId × Transaction). IsIn e live) live tx t (each_from _ live (λ e there. there)) is

-- where none stands twice, it is the one that stands there
in_found : (live : Live) → KeysOnce live → (e : TxId × Transaction) → IsIn e live → of_live e.0 live ≡ Some e.1
in_found [] once e there = absurd there
in_found (x ∷ live) once e (inl is) = by (same_tx x.0 e.0) refl
  where
    own : same_tx x.0 x.0 ≡ true
    own = same_tx-self x.0

    by : (b : Bool) → same_tx x.0 e.0 ≡ b → (if b then Some x.1 else of_live e.0 live) ≡ Some e.1
    by true same = ap (λ (y : TxId × Transaction). Some y.1) (sym is)
    by false off =
        let other : same_tx x.0 x.0 ≡ false = ap (λ (y : TxId × Transaction). same_tx x.0 y.0) (sym is) ∙ off in
        absurd (true≢false (sym own ∙ other))
in_found (x ∷ live) once e (inr there) =
    ap (λ b. if b then Some x.1 else of_live e.0 live)
    (same_tx-swap x.0 e.0 ∙ each_in (λ (y : TxId × Transaction). same_tx y.0 x.0 ≡ false) e live once.0 there)
    ∙ in_found live once.1 e there

-- the promise of a view dooms those that were doomed, and undecided ones
record IsDoomedBy (view : View) (before : List TxId) (live : Live) (tx : TxId) : Type 0 where
  one : TxId × Transaction
  there : IsIn one live
  same : tx ≡ one.0
  why : (is_among before one.0 || is_doomed_by view one.1) ≡ true

module _ (view : View) (before : List TxId) (tx : TxId) where
  later : (e : TxId × Transaction) (live : Live) → IsDoomedBy view before live tx → IsDoomedBy view before (e ∷ live) tx
  later e live is = record { one = is.one; there = inr is.there; same = is.same; why = is.why }

  who_is_doomed : (live : Live) → is_among (doomed_in view before live) tx ≡ true → IsDoomedBy view before live tx
  unfolding doomed_in
  who_is_doomed [] is = absurd (true≢false (sym is))
  who_is_doomed (e ∷ live) is = by (is_among before e.0 || is_doomed_by view e.1) refl is (who_is_doomed live)
    where
      Rest : Type 0
      Rest = is_among (doomed_in view before live) tx ≡ true → IsDoomedBy view before live tx

      by : (b : Bool) → (is_among before e.0 || is_doomed_by view e.1) ≡ b
          → is_among (doomed_if e.0 b ++ doomed_in view before live) tx ≡ true → Rest
          → IsDoomedBy view before (e ∷ live) tx
      by false why is rest = later e live (rest is)
      by true why is rest = which (same_tx tx e.0) refl is
        where
          which : (b : Bool) → same_tx tx e.0 ≡ b → (b || is_among (doomed_in view before live) tx) ≡ true
              → IsDoomedBy view before (e ∷ live) tx
          which true same is = record { one = e; there = inl refl; same = same_tx-is tx e.0 same; why = why }
          which false off is = later e live (rest is)

-- of those that aren't forgotten
among_still : (tc : TcState) (txs : List TxId) (tx : TxId) → is_among (still_live tc txs) tx ≡ true
    → is_among txs tx ≡ true
among_still tc [] tx is = is
among_still tc (one ∷ txs) tx is = by (is_live tc one) is (among_still tc txs tx)
  where
    by : (b : Bool) → is_among (cond b (one ∷ still_live tc txs) (still_live tc txs)) tx ≡ true
        → (is_among (still_live tc txs) tx ≡ true → is_among txs tx ≡ true)
        → (same_tx tx one || is_among txs tx) ≡ true
    by true is rest = which (same_tx tx one) is
      where
        which : (b : Bool) → (b || is_among (still_live tc txs) tx) ≡ true → (b || is_among txs tx) ≡ true
        which true is = refl
        which false is = rest is
    by false is rest = which (same_tx tx one)
      where
        which : (b : Bool) → (b || is_among txs tx) ≡ true
        which true = refl
        which false = rest is

-- the promise of a view dooms who was doomed before
promised_keeps : (s : CoordinatorState) (proposal : View) (tx : TxId) → is_among s.doomed tx ≡ true → (u : Transaction)
    → entry_of (fence_row s proposal).state tx ≡ Some u → is_among (fence_row s proposal).state.doomed tx ≡ true
unfolding fence_row
promised_keeps s proposal tx among u some =
    dooms proposal s.doomed s.tc.live (tx, u) (found_in s.tc.live tx u some)
    (ap (λ b. b || is_doomed_by proposal u) among)

promised_doomed : (s : CoordinatorState) (proposal : View)
    → (fence_row s proposal).state.doomed ≡ doomed_in proposal s.doomed s.tc.live
unfolding fence_row
promised_doomed s proposal = refl

promised_entry : (s : CoordinatorState) (proposal : View) (tx : TxId)
    → entry_of (fence_row s proposal).state tx ≡ entry_of s tx
unfolding fence_row
promised_entry s proposal tx = refl

doomed_undecided : (view : View) (u : Transaction) → is_doomed_by view u ≡ true → is_undecided u.phase ≡ true
unfolding is_doomed_by
doomed_undecided view u is = by (is_undecided u.phase) refl is
  where
    by : (b : Bool) → is_undecided u.phase ≡ b
        → (b && (is_some u.asked || list_any (strays_from view) u.touched)) ≡ true → is_undecided u.phase ≡ true
    by true at is = at
    by false at is = absurd (true≢false (sym is))

-- What a step leaves: it promises a view; or it leaves transactions and whom it has doomed; or of these those that it
-- hasn't forgotten.
data Leaves (s : CoordinatorState) (body : Body) (t : CoordinatorState) : Type 0 where
  promises : (proposal : View) → body ≡ Membership (FenceReq proposal) → t ≡ (fence_row s proposal).state
      → Leaves s body t
  rests : t.tc ≡ s.tc → t.doomed ≡ s.doomed → Leaves s body t
  forgets : t.doomed ≡ still_live t.tc s.doomed → Leaves s body t

module _ (s : CoordinatorState) where
  unless_leaves : (body other : Body) (b : Bool) → Leaves s body (calm_unless s other b).state
  unfolding within
  unless_leaves body other true = rests refl refl
  unless_leaves body other false = forgets refl

  resumes_leaves : (body : Body) (number : ℕ) → Leaves s body (coordinator.resume_row s number).state
  unfolding coordinator.resume_row within
  resumes_leaves body number = by (number == s.number)
    where
      first : (left : List Task) → Leaves s body (coordinator.resume_by s left).state
      first [] = rests refl refl
      first (task ∷ left) = forgets refl

      by : (b : Bool) → Leaves s body (coordinator.resume_if s b).state
      by true = first s.left
      by false = rests refl refl

  table_leaves : (number : ℕ) (body : Body) → Leaves s body (coordinator_table s number body).state
  unfolding within
  table_leaves number (Membership (FenceReq proposal)) = promises proposal refl refl
  table_leaves number (Host (Continue Installation at)) = resumes_leaves (Host (Continue Installation at)) number
  table_leaves number (Host (Continue (work.Transaction tx) at)) =
      unless_leaves (Host (Continue (work.Transaction tx) at)) (Host (Continue (work.Transaction tx) at))
      (nat_lt number s.number)
  table_leaves number (Epoch (DiVerifyConf tx epoch)) =
      unless_leaves (Epoch (DiVerifyConf tx epoch)) (Epoch (DiVerifyConf tx epoch)) (is_among s.doomed tx)
  table_leaves number (Client (TcKeyReq tx op)) =
      unless_leaves (Client (TcKeyReq tx op)) (Client (TcKeyReq tx op)) (is_to_fail s.left tx)
  table_leaves number (Client (TcRollbackReq tx)) =
      unless_leaves (Client (TcRollbackReq tx)) (Client (TcRollbackReq tx)) (is_to_fail s.left tx)
  table_leaves number body = forgets refl

-- an undecided transaction is there
pub record IsUndecidedThere (s : CoordinatorState) (tx : TxId) : Type 0 where
  pub transaction : Transaction
  pub there : entry_of s tx ≡ Some transaction
  pub undecided : is_undecided transaction.phase ≡ true

-- the signal promises a view
pub record IsPromise (body : Body) : Type 0 where
  pub view : View
  pub is : body ≡ Membership (FenceReq view)

abbrev pub IsThere : CoordinatorState → TxId → Type 0
IsThere s tx = entry_of s tx ≡ None → ⊥

-- what a step leaves of a doomed transaction, and whom it finds doomed
pub record Dooms (s : CoordinatorState) (body : Body) (now : CoordinatorState) (tx : TxId) : Type 0 where
  pub stays : is_among s.doomed tx ≡ true → IsThere now tx → is_among now.doomed tx ≡ true
  pub was : is_among now.doomed tx ≡ true → (is_among s.doomed tx ≡ true) ⊎ (IsUndecidedThere s tx × IsPromise body)
  pub lives : (is_among s.doomed tx ≡ true → IsThere s tx) → is_among now.doomed tx ≡ true → IsThere now tx

-- who has a place is there
placed_there : (tc : TcState) (tx : TxId) → is_live tc tx ≡ true → (of_live tx tc.live ≡ None → ⊥)
placed_there tc tx lives none = absurd (true≢false (sym lives ∙ off (tc.live) none))
  where
    none_by : (o : Option ℕ) → is_some o ≡ false → is_some (place_by false o) ≡ false
    none_by None is = refl
    none_by (Some at) is = absurd (true≢false is)

    off : (live : Live) → of_live tx live ≡ None → is_some (position (same_tx tx) (keys_of live)) ≡ false
    off [] is = refl
    off (e ∷ live) is = by (same_tx e.0 tx) refl is (off live)
      where
        by : (b : Bool) → same_tx e.0 tx ≡ b → (if b then Some e.1 else of_live tx live) ≡ None
            → (of_live tx live ≡ None → is_some (position (same_tx tx) (keys_of live)) ≡ false)
            → is_some (position (same_tx tx) (keys_of (e ∷ live))) ≡ false
        by true own is rest = absurd (let nothing : Some e.1 ≡ None = is in cc)
        by false own is rest =
            ap is_some (position-cons (same_tx tx) e.0 (keys_of live))
            ∙ (ap (λ b. is_some (place_by b (position (same_tx tx) (keys_of live)))) (same_tx-swap tx e.0 ∙ own)
            ∙ none_by (position (same_tx tx) (keys_of live)) (rest is))

-- whoever is among those that aren't forgotten isn't
still_there : (tc : TcState) (txs : List TxId) (tx : TxId) → is_among (still_live tc txs) tx ≡ true
    → is_live tc tx ≡ true
still_there tc [] tx is = absurd (true≢false (sym is))
still_there tc (one ∷ txs) tx is = by (is_live tc one) refl is (still_there tc txs tx)
  where
    by : (b : Bool) → is_live tc one ≡ b → is_among (cond b (one ∷ still_live tc txs) (still_live tc txs)) tx ≡ true
        → (is_among (still_live tc txs) tx ≡ true → is_live tc tx ≡ true) → is_live tc tx ≡ true
    by true lives is rest = which (same_tx tx one) refl is
      where
        which : (b : Bool) → same_tx tx one ≡ b → (b || is_among (still_live tc txs) tx) ≡ true → is_live tc tx ≡ true
        which true same is = ap (is_live tc) (same_tx-is tx one same) ∙ lives
        which false off is = rest is
    by false gone is rest = rest is

module _ (s : CoordinatorState) (once : KeysOnce s.tc.live) (x : Signal) (tx : TxId) where
  abbrev t : CoordinatorState
  t = (coordinator_row s x).state

  some_there : (o : Option Transaction) → entry_of t tx ≡ o → IsThere t tx → ((u : Transaction) → entry_of t tx ≡ Some u
      → is_among t.doomed tx ≡ true) → is_among t.doomed tx ≡ true
  some_there None is there all = absurd (there is)
  some_there (Some u) is there all = all u is

  promised : (proposal : View) → x.body ≡ Membership (FenceReq proposal) → t ≡ (fence_row s proposal).state
      → Dooms s x.body t tx
  promised proposal body is = record {
    stays = λ among there. some_there (entry_of t tx) refl there (keeps among);
    was = λ among. was (who among);
    lives = λ before among. lives (who among);
  }
    where
      keeps : is_among s.doomed tx ≡ true → (u : Transaction) → entry_of t tx ≡ Some u → is_among t.doomed tx ≡ true
      keeps among u some =
          subst (λ (c : CoordinatorState). is_among c.doomed tx ≡ true) (sym is)
          (promised_keeps s proposal tx among u (subst (λ (c : CoordinatorState). entry_of c tx ≡ Some u) is some))

      who : is_among t.doomed tx ≡ true → IsDoomedBy proposal s.doomed s.tc.live tx
      who among =
          who_is_doomed proposal s.doomed tx s.tc.live
          (sym (ap (λ txs. is_among txs tx) (ap (λ (c : CoordinatorState). c.doomed) is ∙ promised_doomed s proposal))
          ∙ among)

      found : (one : IsDoomedBy proposal s.doomed s.tc.live tx) → entry_of s tx ≡ Some one.one.1
      found one = ap (λ v. of_live v s.tc.live) one.same ∙ in_found s.tc.live once one.one one.there

      was : IsDoomedBy proposal s.doomed s.tc.live tx
          → (is_among s.doomed tx ≡ true) ⊎ (IsUndecidedThere s tx × IsPromise x.body)
      was one = by (is_among s.doomed one.one.0) refl one.why
        where
          by : (b : Bool) → is_among s.doomed one.one.0 ≡ b → (b || is_doomed_by proposal one.one.1) ≡ true
              → (is_among s.doomed tx ≡ true) ⊎ (IsUndecidedThere s tx × IsPromise x.body)
          by true among why = inl (ap (is_among s.doomed) one.same ∙ among)
          by false among why = inr (
            record {
              transaction = one.one.1;
              there = found one;
              undecided = doomed_undecided proposal one.one.1 why;
            },
            record { view = proposal; is = body },
          )

      lives : IsDoomedBy proposal s.doomed s.tc.live tx → IsThere t tx
      lives one none =
          let nothing : Some one.one.1 ≡ None =
          sym (found one) ∙ (sym (promised_entry s proposal tx) ∙
          (ap (λ (c : CoordinatorState). entry_of c tx) (sym is) ∙ none)) in
          absurd cc

  left : Leaves s x.body t → Dooms s x.body t tx
  left (promises proposal body is) = promised proposal body is
  left (rests tc doomed) = record {
    stays = λ among there. ap (λ txs. is_among txs tx) doomed ∙ among;
    was = λ among. inl (ap (λ txs. is_among txs tx) (sym doomed) ∙ among);
    lives = λ before among none.
        before (ap (λ txs. is_among txs tx) (sym doomed) ∙ among)
        (ap (λ (c : TcState). of_live tx c.live) (sym tc) ∙ none);
  }
  left (forgets doomed) = record {
    stays = λ among there.
        some_there (entry_of t tx) refl there
        (λ u is. stays_doomed s t (tx, u) (found_in t.tc.live tx u is) (inr doomed) among);
    was = λ among. inl (among_still t.tc s.doomed tx (ap (λ txs. is_among txs tx) (sym doomed) ∙ among));
    lives = λ before among.
        placed_there t.tc tx (still_there t.tc s.doomed tx (ap (λ txs. is_among txs tx) (sym doomed) ∙ among));
  }

  pub row_dooms : Dooms s x.body t tx
  row_dooms = left (table_leaves s x.view.number x.body)

-- a doomed transaction takes no epoch
pub takes_no_epoch : (s : CoordinatorState) (x : Signal) (tx : TxId) (epoch : ℕ)
    → x.body ≡ Epoch (DiVerifyConf tx epoch)
    → is_among s.doomed tx ≡ true → coordinator_row s x ≡ stay s
takes_no_epoch s x tx epoch is among =
    ap (coordinator_table s x.view.number) is ∙ ap (calm_unless s (Epoch (DiVerifyConf tx epoch))) among
