-- A transaction that is given an epoch is counted, until its coordinator ends the count.
use Rattle.std.proofs.Common.{◌≡◌, ◌⊎◌, ◌∙◌, ◌==◌, ◌+◌, ◌++◌, ◌||◌, ℕ, Bool, true, false, List, [], ◌∷◌, cond, inl, inr}
use Rattle.std.proofs.Common.{length, nat_le, nat_lt, refl, sym, ap, subst, arith}
use Rattle.std.proofs.lemmas.Bool.{true≢false}
use Rattle.std.proofs.lemmas.Bool.Decides.{nat_tests}
use Rattle.std.specs.List.{list_any, prefix_len}
use Rattle.std.specs.Prelude.{None, not, Option, position, remove, slice_get, Some}
use Rattle.run_theory.proofs.Focus.{IsFocus, found}
use Rattle.sig_core.specs.declared.mark.Mark.{Mark}
use Rattle.sig_core.specs.declared.member.TxId.{TxId}
use Rattle.sig_core.specs.declared.signal.Body.{Body}
use Rattle.sig_core.specs.declared.signal.Body.TheVariants.{Epoch, Host, Membership}
use Rattle.sig_core.specs.declared.signal.Signal.{Signal}
use Rattle.sig_core.specs.declared.signal.epoch.EpochSignal.{EpochSignal}
use Rattle.sig_core.specs.declared.signal.epoch.EpochSignal.TheVariants.{CopyGciReq, DiVerifyEnd, DiVerifyReq}
use Rattle.sig_core.specs.declared.signal.epoch.EpochSignal.TheVariants.{GcpClosed, GcpCommit, GcpDone, GcpPrepare}
use Rattle.sig_core.specs.declared.signal.epoch.EpochSignal.TheVariants.{GcpPrepareConf, GcpStateReq}
use Rattle.sig_core.specs.declared.signal.host.HostSignal.TheVariants.{Continue}
use Rattle.sig_core.specs.declared.signal.host.Work.TheVariants.{Held}
use Rattle.sig_core.specs.declared.signal.membership.MembershipSignal.TheVariants.{FenceReq}
use Rattle.sig_core.specs.Place.{checkpoints}
use Rattle.sig_core.specs.Same.{same_tx}
use Rattle.sig_core.specs.Step.{Step, sending}
use Rattle.sig_core.proofs.TxLemmas.{same_tx-is}
use Rattle.dih_node.specs.declared.dih.Counted.{Counted}
use Rattle.dih_node.specs.declared.dih.Report.{Report}
use Rattle.dih_node.specs.declared.dih.TheConstants.{TRANSACTIONS}
use Rattle.dih_node.specs.Dih.{dih_row, dih_table, epoch_table}
use Rattle.dih_node.specs.Orders.{close_row, commit_if, commit_row, committed, copy_row, done_row, fence_row}
use Rattle.dih_node.specs.Orders.{install_row, noting, prepare_row, prepared_if, serving, state_row}
use Rattle.dih_node.specs.State.{DihState, gives, is_unfinished}
use Rattle.dih_node.specs.Verify.{end_row, ended, ended_by, given, held_by, is_of, report_by, report_if, reported}
use Rattle.dih_node.specs.Verify.{serve_by, serve_if, serve_row, take_if, verify_if, verify_row}
use Rattle.outcome_laws.specs.Counts.{is_decision}

-- it is among those that are counted
abbrev pub has : TxId → List Counted → Bool
has tx counted = list_any (λ (one : Counted). same_tx one.tx tx) counted

has_front : (tx : TxId) (xs ys : List Counted) → has tx xs ≡ true → has tx (xs ++ ys) ≡ true
has_front tx [] ys is = absurd (true≢false (sym is))
has_front tx (c ∷ xs) ys is = by (same_tx c.tx tx) is (has_front tx xs ys)
  where
    by : (b : Bool) → (b || has tx xs) ≡ true → (has tx xs ≡ true → has tx (xs ++ ys) ≡ true)
        → (b || has tx (xs ++ ys)) ≡ true
    by true is rest = refl
    by false is rest = rest is

has_last : (tx : TxId) (xs : List Counted) (c : Counted) → same_tx c.tx tx ≡ true → has tx (xs ++ c ∷ []) ≡ true
has_last tx [] c is = ap (λ b. b || false) is
has_last tx (d ∷ xs) c is = by (same_tx d.tx tx) (has_last tx xs c is)
  where
    by : (b : Bool) → has tx (xs ++ c ∷ []) ≡ true → (b || has tx (xs ++ c ∷ [])) ≡ true
    by true rest = refl
    by false rest = rest

-- another one may go
has_others : (tx : TxId) (front back : List Counted) (c : Counted) → same_tx c.tx tx ≡ false
    → has tx (front ++ c ∷ back) ≡ true → has tx (front ++ back) ≡ true
has_others tx [] back c off is = sym (ap (λ b. b || has tx back) off) ∙ is
has_others tx (d ∷ front) back c off is = by (same_tx d.tx tx) is (has_others tx front back c off)
  where
    by : (b : Bool) → (b || has tx (front ++ c ∷ back)) ≡ true
        → (has tx (front ++ c ∷ back) ≡ true → has tx (front ++ back) ≡ true) → (b || has tx (front ++ back)) ≡ true
    by true is rest = refl
    by false is rest = rest is

focus_at : {A : Type 0} (p : A → Bool) (xs : List A) (at : ℕ) → position p xs ≡ Some at → IsFocus p xs at
focus_at {A} p xs at there = by (nat_lt place (length xs)) refl there
  where
    place : ℕ
    place = prefix_len (λ y. not (p y)) xs

    by : (b : Bool) → nat_lt place (length xs) ≡ b → cond {A = Option ℕ} b (Some place) None ≡ Some at → IsFocus p xs at
    by true low is =
        let same : place ≡ at = cc in subst (IsFocus p xs) same (found p xs (grind (arith, nat_tests, low)))
    by false low is = absurd cc

module _ (tx : TxId) (s : DihState) (body : Body) where
  -- what a step comes to for the transaction
  pub record Counts (step : Step DihState) : Type 0 where
    pub kept : has tx s.counted ≡ true → (body ≡ Epoch (DiVerifyEnd tx)) ⊎ (has tx step.state.counted ≡ true)
    pub decided : list_any (is_decision tx) step.effects.marks ≡ true → has tx step.state.counted ≡ true

  quiet : (step : Step DihState) → step.state.counted ≡ s.counted → step.effects.marks ≡ [] → Counts step
  quiet step same none = record {
    kept = λ is. inr (ap (has tx) same ∙ is);
    decided = λ is. absurd (true≢false (sym is ∙ ap (list_any (is_decision tx)) none));
  }

  one_decided : (b : Bool) → (b || false) ≡ true → b ≡ true
  one_decided true is = refl
  one_decided false is = is

  given_counts : (one : TxId) → Counts (given s one)
  unfolding given
  given_counts one = record {
    kept = λ is. inr (has_front tx s.counted _ is);
    decided = λ is. has_last tx s.counted (record { tx = one; epoch = s.current }) (one_decided (same_tx one tx) is);
  }

  served_counts : (one : TxId) → Counts (serve_by s (Some one))
  unfolding given
  served_counts one = record {
    kept = λ is. inr (has_front tx s.counted _ is);
    decided = λ is. has_last tx s.counted (record { tx = one; epoch = s.current }) (one_decided (same_tx one tx) is);
  }

-- what a step leaves of those that are counted, and marks
record IsStill (counted : List Counted) (step : Step DihState) : Type 0 where
  same : step.state.counted ≡ counted
  none : step.effects.marks ≡ []

served_still : (counted : List Counted) (step : Step DihState) → IsStill counted step → IsStill counted (serving step)
served_still counted step still =
    record { same = still.same; none = ap (λ (marks : List Mark). marks ++ []) still.none }

reported_still : (t : DihState) → IsStill t.counted (reported t)
unfolding reported
reported_still t = by t.order
  where
    whether : (order : Report) (b : Bool) → IsStill t.counted (report_if t order b)
    whether order true = record { same = refl; none = refl }
    whether order false = record { same = refl; none = refl }

    by : (o : Option Report) → IsStill t.counted (report_by t o)
    by None = record { same = refl; none = refl }
    by (Some order) = whether order (is_unfinished t.counted order.epoch)

prepare_still : (s : DihState) (from epoch next : ℕ) → IsStill s.counted (prepare_row s from epoch next)
unfolding prepare_row
prepare_still s from epoch next = by (nat_le s.current epoch)
  where
    by : (b : Bool)
        → IsStill s.counted (sending (prepared_if s epoch next b) (checkpoints from) (Epoch (GcpPrepareConf epoch)))
    by true = record { same = refl; none = refl }
    by false = record { same = refl; none = refl }

commit_still : (s : DihState) (from epoch next : ℕ) → IsStill s.counted (commit_row s from epoch next)
unfolding commit_row
commit_still s from epoch next = by (nat_le s.current epoch)
  where
    by : (b : Bool) → IsStill s.counted (commit_if s from epoch next b)
    by true =
        served_still s.counted (noting (committed s epoch next) from epoch)
        (reported_still (record (committed s epoch next) { order = Some (record { epoch = epoch; to = from }) }))
    by false = reported_still (record s { order = Some (record { epoch = epoch; to = from }) })

-- a view that is installed leaves what is counted
pub installs_still : (s : DihState) (number : ℕ) → (install_row s number).state.counted ≡ s.counted
unfolding install_row
installs_still s number = refl

module _ (tx : TxId) (s : DihState) where
  still : (body : Body) (step : Step DihState) → IsStill s.counted step → Counts tx s body step
  still body step is = quiet tx s body step is.same is.none

  ended_kept : (one : TxId) → has tx s.counted ≡ true
      → (Epoch (DiVerifyEnd one) ≡ Epoch (DiVerifyEnd tx)) ⊎ (has tx (ended s one).counted ≡ true)
  unfolding ended
  ended_kept one is = by (position (is_of one) s.counted) refl
    where
      among : (o : Option ℕ) → has tx (held_by s o).counted ≡ true
      among None = is
      among (Some at) = is

      of_focus : (at : ℕ) (f : IsFocus (is_of one) s.counted at) → (b : Bool) → same_tx one tx ≡ b
          → (Epoch (DiVerifyEnd one) ≡ Epoch (DiVerifyEnd tx)) ⊎ (has tx (remove s.counted at) ≡ true)
      of_focus at f true own = inl (ap (λ (v : TxId). Epoch (DiVerifyEnd v)) (same_tx-is one tx own))
      of_focus at f false other =
          let named : one ≡ f.item.tx = same_tx-is one f.item.tx f.passes in
          inr
          (ap (has tx) f.removed
          ∙ has_others tx f.front f.back f.item (ap (λ v. same_tx v tx) (sym named) ∙ other)
          (sym (ap (has tx) f.is) ∙ is))

      by : (o : Option ℕ) → position (is_of one) s.counted ≡ o
          → (Epoch (DiVerifyEnd one) ≡ Epoch (DiVerifyEnd tx)) ⊎ (has tx (ended_by s one o).counted ≡ true)
      by None at = inr (among (position (same_tx one) s.held))
      by (Some place) at = of_focus place (focus_at (is_of one) s.counted place at) (same_tx one tx) refl

  end_counts : (one : TxId) → Counts tx s (Epoch (DiVerifyEnd one)) (end_row s one)
  unfolding end_row
  end_counts one = record {
    kept = λ is. by (ended_kept one is);
    decided = λ is. absurd (true≢false (sym is ∙ ap (list_any (is_decision tx)) after.none));
  }
    where
      after : IsStill (ended s one).counted (reported (ended s one))
      after = reported_still (ended s one)

      by : (Epoch (DiVerifyEnd one) ≡ Epoch (DiVerifyEnd tx)) ⊎ (has tx (ended s one).counted ≡ true)
          → (Epoch (DiVerifyEnd one) ≡ Epoch (DiVerifyEnd tx)) ⊎ (has tx (reported (ended s one)).state.counted ≡ true)
      by (inl own) = inl own
      by (inr is) = inr (ap (has tx) after.same ∙ is)

  verify_counts : (body : Body) (one : TxId) → Counts tx s body (verify_row s one)
  unfolding verify_row
  verify_counts body one = by (nat_lt (length s.counted + length s.held) TRANSACTIONS)
    where
      free : (b : Bool) → Counts tx s body (verify_if s one b)
      free true = given_counts tx s body one
      free false = quiet tx s body _ refl refl

      by : (b : Bool) → Counts tx s body (take_if s one b)
      by true = free (gives s)
      by false = quiet tx s body _ refl refl

  serve_counts : (body : Body) (number : ℕ) → Counts tx s body (serve_row s number)
  unfolding serve_row
  serve_counts body number = by (number == s.number) (gives s)
    where
      first : (o : Option TxId) → Counts tx s body (serve_by s o)
      first None = quiet tx s body _ refl refl
      first (Some one) = served_counts tx s body one

      by : (b c : Bool) → Counts tx s body (serve_if s b c)
      by true true = first (slice_get s.held 0)
      by true false = quiet tx s body _ refl refl
      by false c = quiet tx s body _ refl refl

  epoch_counts : (from : ℕ) (signal : EpochSignal) → Counts tx s (Epoch signal) (epoch_table s from signal)
  unfolding close_row copy_row done_row state_row
  epoch_counts from (DiVerifyReq one ops) = verify_counts (Epoch (DiVerifyReq one ops)) one
  epoch_counts from (DiVerifyEnd one) = end_counts one
  epoch_counts from (GcpPrepare epoch next) = still (Epoch (GcpPrepare epoch next)) _ (prepare_still s from epoch next)
  epoch_counts from (GcpCommit epoch next) = still (Epoch (GcpCommit epoch next)) _ (commit_still s from epoch next)
  epoch_counts from (GcpClosed epoch) = quiet tx s (Epoch (GcpClosed epoch)) _ refl refl
  epoch_counts from (CopyGciReq epoch mask) = quiet tx s (Epoch (CopyGciReq epoch mask)) _ refl refl
  epoch_counts from (GcpDone epoch) = quiet tx s (Epoch (GcpDone epoch)) _ refl refl
  epoch_counts from GcpStateReq = quiet tx s (Epoch GcpStateReq) _ refl refl
  epoch_counts from signal = quiet tx s (Epoch signal) _ refl refl

  table_counts : (from number : ℕ) (body : Body) → Counts tx s body (dih_table s from number body)
  unfolding fence_row
  table_counts from number (Host (Continue Held at)) = serve_counts (Host (Continue Held at)) number
  table_counts from number (Membership (FenceReq proposal)) = quiet tx s (Membership (FenceReq proposal)) _ refl refl
  table_counts from number (Epoch signal) = epoch_counts from signal
  table_counts from number body = quiet tx s body _ refl refl

  -- whatever the epochs take
  pub dih_counts : (x : Signal) → Counts tx s x.body (dih_row s x)
  dih_counts x = table_counts x.member.node x.view.number x.body
