-- What the epochs of a member have noted as closed they were told, and what they have noted as durable never falls.
use Rattle.std.proofs.Common.{◌≡◌, ℕ, ◌≤◌, Bool, true, false, nat_lt, refl, ap, sym, subst, ◌∙◌, arith}
use Rattle.std.proofs.lemmas.Bool.{ltb-true, true≢false}
use Rattle.std.specs.Prelude.{if◌then◌else◌}
use Rattle.sig_core.specs.declared.member.TxId.{TxId}
use Rattle.sig_core.specs.declared.signal.Body.{Body}
use Rattle.sig_core.specs.declared.signal.Body.TheVariants.{Epoch}
use Rattle.sig_core.specs.declared.signal.Signal.{Signal}
use Rattle.sig_core.specs.declared.signal.epoch.EpochSignal.TheVariants.{GcpClosed, GcpDone}
use Rattle.dih_node.specs.Dih.{dih_row, dih_table}
use Rattle.dih_node.specs.Orders.{close_row, committed, done_row, greater, install_row}
use Rattle.dih_node.specs.State.{DihState}
use Rattle.dih_node.proofs.Walk.{IsEnded, ReportOutcomes, dih_outcomes, ordered, was_counted, was_held, was_unknown}

-- it has noted what it had
pub record Notes (s now : DihState) : Type 0 where
  pub closed : now.closed ≡ s.closed
  pub durable : now.durable ≡ s.durable

-- what a signal leaves of that
abbrev pub NotesAt : DihState → Body → DihState → Type 0
NotesAt s (Epoch (GcpClosed epoch)) now = (now.closed ≡ greater s.closed epoch) × (now.durable ≡ s.durable)
NotesAt s (Epoch (GcpDone epoch)) now = (now.closed ≡ s.closed) × (s.durable ≤ now.durable)
NotesAt s body now = Notes s now

same : (s : DihState) → Notes s s
same s = record { closed = refl; durable = refl }

reports_note : (s now : DihState) → Notes s now → ReportOutcomes now (λ step. Notes s step.state)
reports_note s now noted = record {
  unordered = λ none. noted;
  waits = λ order there left. noted;
  reports = λ order there none. record { closed = noted.closed; durable = noted.durable };
}

of_end : (s : DihState) (tx : TxId) (now : DihState) → IsEnded s tx now → Notes s now
of_end s tx _ (was_counted at is) = record { closed = refl; durable = refl }
of_end s tx _ (was_held at none is) = record { closed = refl; durable = refl }
of_end s tx _ (was_unknown none is) = same s

greater_first : (one other : ℕ) → one ≤ greater one other
greater_first one other = by (nat_lt one other) refl
  where
    by : (b : Bool) → nat_lt one other ≡ b → one ≤ (if b then other else one)
    by true is = let below = ltb-true one other is in omega (arith, below)
    by false is = omega arith

-- it is told that an epoch is closed, or durable
abbrev is_told : Body → Bool
is_told (Epoch (GcpClosed epoch)) = true
is_told (Epoch (GcpDone epoch)) = true
is_told _ = false

module _ (s : DihState) (x : Signal) where
  notes_else : is_told x.body ≡ false → Notes s (dih_row s x).state
  notes_else off =
      dih_outcomes s x (λ step. Notes s step.state) (record {
        stays = same s;
        decides = λ tx ops is on. record { closed = refl; durable = refl };
        holds = λ tx ops is not_yet. record { closed = refl; durable = refl };
        serves = λ at tx is own on first. record { closed = refl; durable = refl };
        ends = λ tx now is done. reports_note s now (of_end s tx now done);
        prepares = λ epoch next is ahead. record { closed = refl; durable = refl };
        prepares_late = λ epoch next is late. same s;
        commits = λ epoch next is ahead.
            reports_note s (ordered (committed s epoch next) x.member.node epoch)
            (record { closed = refl; durable = refl });
        commits_late = λ epoch next is late.
            reports_note s (ordered s x.member.node epoch) (record { closed = refl; durable = refl });
        closes = λ epoch is. absurd (true≢false (sym (ap is_told is) ∙ off));
        copies = λ epoch mask is. same s;
        notes = λ epoch is. absurd (true≢false (sym (ap is_told is) ∙ off));
        tells = λ is. same s;
        fences = λ proposal is. record { closed = refl; durable = refl };
      })

  -- whatever it takes, and whatever view is installed
  pub dih_notes : NotesAt s x.body (dih_row s x).state
  unfolding close_row done_row
  dih_notes = by x.body refl
    where
      by : (body : Body) → x.body ≡ body → NotesAt s body (dih_row s x).state
      by (Epoch (GcpClosed epoch)) is =
          subst (λ body. NotesAt s (Epoch (GcpClosed epoch)) (dih_table s x.member.node x.view.number body).state)
          (sym is) (refl, refl)
      by (Epoch (GcpDone epoch)) is =
          subst (λ body. NotesAt s (Epoch (GcpDone epoch)) (dih_table s x.member.node x.view.number body).state)
          (sym is) (refl, greater_first s.durable epoch)
      by body is = notes_else (ap is_told is)

pub dih_installs_note : (s : DihState) (number : ℕ) → Notes s (install_row s number).state
unfolding install_row
dih_installs_note s number = record { closed = refl; durable = refl }
