-- What the epochs of a member do of their current, prepared and next epoch, signal by signal: an order to prepare or to
-- commit that isn't late moves them, and nothing else does.
use Rattle.std.proofs.Common.{◌≡◌, ◌⊎◌, ◌∙◌, ℕ, ◌≤◌, ◌<◌, Bool, true, false, nat_le, refl, ap, sym, subst, inl, inr}
use Rattle.std.proofs.lemmas.Bool.{leb-false, leb-true, true≢false}
use Rattle.std.specs.Prelude.{Some}
use Rattle.sig_core.specs.declared.member.TxId.{TxId}
use Rattle.sig_core.specs.declared.signal.Body.{Body}
use Rattle.sig_core.specs.declared.signal.Body.TheVariants.{Epoch}
use Rattle.sig_core.specs.declared.signal.Signal.{Signal}
use Rattle.sig_core.specs.declared.signal.epoch.EpochSignal.TheVariants.{GcpPrepare, GcpCommit}
use Rattle.sig_core.specs.Step.{Step}
use Rattle.dih_node.specs.Dih.{dih_row, dih_table}
use Rattle.dih_node.specs.Orders.{commit_if, commit_row, committed, install_row, prepare_row, prepared_if}
use Rattle.dih_node.specs.State.{DihState}
use Rattle.dih_node.specs.Verify.{reported}
use Rattle.dih_node.proofs.Walk.{IsEnded, ReportOutcomes, dih_outcomes, reported_outcomes, was_counted, was_held}
use Rattle.dih_node.proofs.Walk.{was_unknown}

-- it gives this epoch, and these are of the last order
pub record IsAt (current prepared next : ℕ) (s : DihState) : Type 0 where
  pub current_is : s.current ≡ current
  pub prepared_is : s.prepared ≡ prepared
  pub next_is : s.next ≡ next

-- it is where it was
abbrev pub Stays : DihState → DihState → Type 0
Stays s now = IsAt s.current s.prepared s.next now

-- an order is carried out, unless the current epoch is beyond the one of the order
abbrev pub Follows : ℕ → DihState → DihState → Type 0 → Type 0
Follows epoch s now Carried = ((s.current ≤ epoch) × Carried) ⊎ ((epoch < s.current) × Stays s now)

-- what a signal leaves
abbrev pub Moves : DihState → Body → DihState → Type 0
Moves s (Epoch (GcpPrepare epoch next)) now = Follows epoch s now (IsAt s.current epoch next now)
Moves s (Epoch (GcpCommit epoch next)) now = Follows epoch s now (IsAt next epoch next now)
Moves s body now = Stays s now

pub rests : (s : DihState) → Stays s s
rests s = record { current_is = refl; prepared_is = refl; next_is = refl }

then : (current prepared next : ℕ) (s now : DihState) → IsAt current prepared next s → Stays s now
    → IsAt current prepared next now
then current prepared next s now is same =
    record {
      current_is = same.current_is ∙ is.current_is;
      prepared_is = same.prepared_is ∙ is.prepared_is;
      next_is = same.next_is ∙ is.next_is;
    }

abbrev LeavesAt : DihState → Step DihState → Type 0
LeavesAt s step = Stays s step.state

-- reports and ends
reports_stay : (s now : DihState) → Stays s now → ReportOutcomes now (LeavesAt s)
reports_stay s now same = record {
  unordered = λ none. same;
  waits = λ order there left. same;
  reports = λ order there none.
      record { current_is = same.current_is; prepared_is = same.prepared_is; next_is = same.next_is };
}

reported_stays : (s : DihState) → Stays s (reported s).state
reported_stays s = reported_outcomes s (LeavesAt s) (reports_stay s s (rests s))

-- orders
prepare_moves : (s : DihState) (from epoch next : ℕ)
    → Moves s (Epoch (GcpPrepare epoch next)) (prepare_row s from epoch next).state
unfolding prepare_row
prepare_moves s from epoch next = by (nat_le s.current epoch) refl
  where
    by : (b : Bool) → nat_le s.current epoch ≡ b
        → Moves s (Epoch (GcpPrepare epoch next)) (prepared_if s epoch next b)
    by true on = inl (leb-true s.current epoch on, record { current_is = refl; prepared_is = refl; next_is = refl })
    by false off = inr (leb-false s.current epoch off, rests s)

commit_moves : (s : DihState) (from epoch next : ℕ)
    → Moves s (Epoch (GcpCommit epoch next)) (commit_row s from epoch next).state
unfolding commit_row
commit_moves s from epoch next = by (nat_le s.current epoch) refl
  where
    by : (b : Bool) → nat_le s.current epoch ≡ b
        → Moves s (Epoch (GcpCommit epoch next)) (commit_if s from epoch next b).state
    by true on =
        let now = record (committed s epoch next) { order = Some (record { epoch = epoch; to = from }) } in
        inl (
          leb-true s.current epoch on,
          then next epoch next now (reported now).state
              (record { current_is = refl; prepared_is = refl; next_is = refl })
              (reported_stays now),
        )
    by false off =
        let now = record s { order = Some (record { epoch = epoch; to = from }) } in
        inr (
          leb-false s.current epoch off,
          then s.current s.prepared s.next now (reported now).state
              (record { current_is = refl; prepared_is = refl; next_is = refl })
              (reported_stays now),
        )

-- whatever else it takes
abbrev is_move : Body → Bool
is_move (Epoch (GcpPrepare epoch next)) = true
is_move (Epoch (GcpCommit epoch next)) = true
is_move _ = false

module _ (s : DihState) (x : Signal) where
  stays_else : is_move x.body ≡ false → Stays s (dih_row s x).state
  stays_else off =
      dih_outcomes s x (LeavesAt s) (record {
        stays = rests s;
        decides = λ tx ops is on. record { current_is = refl; prepared_is = refl; next_is = refl };
        holds = λ tx ops is off. record { current_is = refl; prepared_is = refl; next_is = refl };
        serves = λ at tx is own on first. record { current_is = refl; prepared_is = refl; next_is = refl };
        ends = λ tx now is ended. reports_stay s now (of_end tx now ended);
        prepares = λ epoch next is ahead. absurd (true≢false (sym (ap is_move is) ∙ off));
        prepares_late = λ epoch next is late. absurd (true≢false (sym (ap is_move is) ∙ off));
        commits = λ epoch next is ahead. absurd (true≢false (sym (ap is_move is) ∙ off));
        commits_late = λ epoch next is late. absurd (true≢false (sym (ap is_move is) ∙ off));
        closes = λ epoch is. record { current_is = refl; prepared_is = refl; next_is = refl };
        copies = λ epoch mask is. rests s;
        notes = λ epoch is. record { current_is = refl; prepared_is = refl; next_is = refl };
        tells = λ is. rests s;
        fences = λ proposal is. record { current_is = refl; prepared_is = refl; next_is = refl };
      })
    where
      of_end : (tx : TxId) (now : DihState) → IsEnded s tx now → Stays s now
      of_end tx _ (was_counted at is) = record { current_is = refl; prepared_is = refl; next_is = refl }
      of_end tx _ (was_held at none is) = record { current_is = refl; prepared_is = refl; next_is = refl }
      of_end tx _ (was_unknown none is) = rests s

  -- whatever it takes
  pub dih_moves : Moves s x.body (dih_row s x).state
  dih_moves = by x.body refl
    where
      by : (body : Body) → x.body ≡ body → Moves s body (dih_row s x).state
      by (Epoch (GcpPrepare epoch next)) is =
          subst
          (λ body. Moves s (Epoch (GcpPrepare epoch next)) (dih_table s x.member.node x.view.number body).state)
          (sym is) (prepare_moves s x.member.node epoch next)
      by (Epoch (GcpCommit epoch next)) is =
          subst (λ body. Moves s (Epoch (GcpCommit epoch next)) (dih_table s x.member.node x.view.number body).state)
          (sym is) (commit_moves s x.member.node epoch next)
      by body is = stays_else (ap is_move is)

-- a view that is installed moves nothing
pub dih_installs_stay : (s : DihState) (number : ℕ) → Stays s (install_row s number).state
unfolding install_row
dih_installs_stay s number = record { current_is = refl; prepared_is = refl; next_is = refl }
