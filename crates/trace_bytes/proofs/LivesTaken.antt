-- What is read of logs and lives is what is written.
use Rattle.std.proofs.Common.{◌≡◌, ℕ, ◌≤◌, ◌<◌, ◌%◌, Bool, true, false, List, [], ◌∷◌, ◌++◌, length, refl, sym, ap}
use Rattle.std.proofs.Common.{subst, ◌∙◌, append-nil, arith}
use Rattle.std.specs.Prelude.{Option, None, Some, Result, Ok, Err, ◌==◌, nat_lt, if◌then◌else◌}
use Rattle.std.proofs.lemmas.Bool.{eqb-true, ltb-true}
use Rattle.sig_core.specs.declared.log.Life.{Life}
use Rattle.sig_core.specs.declared.view.Shape.{Shape}
use Rattle.redo_format.specs.Reading.{byte_at}
use Rattle.redo_format.proofs.Readers.{IsBytes, bind_ok, reads_byte}
use Rattle.trace_bytes.specs.Numbers.{u64_bytes, u64_at}
use Rattle.trace_bytes.specs.Laws.{ReadIsWritten}
use Rattle.trace_bytes.specs.Lives.{place_bytes, IsPlace, place_of, place_at, header_bytes, IsHeader, header_of}
use Rattle.trace_bytes.specs.Lives.{header_at, signal_bytes, IsSignal, signal_of, signal_at, step_bytes, IsStep}
use Rattle.trace_bytes.specs.Lives.{step_of, step_at, log_bytes, IsLog, log_of, log_at, shape_bytes, IsShape}
use Rattle.trace_bytes.specs.Lives.{if_divides, divisor_at, shape_of, shape_at, system_bytes, IsSystem, system_of}
use Rattle.trace_bytes.specs.Lives.{system_at, opt_system_bytes, opt_system_at, control_bytes, IsControl, control_of}
use Rattle.trace_bytes.specs.Lives.{control_at, opt_control_bytes, opt_control_at, slots_bytes, IsSlots, slots_of}
use Rattle.trace_bytes.specs.Lives.{slots_at, LAST_START, if_starts, start_epoch_at, life_bytes, IsLife, life_of}
use Rattle.trace_bytes.specs.Lives.{life_at, trace_of, trace_at, whole, read_of}
use Rattle.trace_bytes.specs.Words.{IsOption}
use Rattle.trace_bytes.proofs.BodiesTaken.{takes_body}
use Rattle.trace_bytes.proofs.ListsTaken.{takes_list}
use Rattle.trace_bytes.proofs.MarksTaken.{takes_mark}
use Rattle.trace_bytes.proofs.PlacesTaken.{takes_block}
use Rattle.trace_bytes.proofs.Taken.{Takes, good, ok_is, takes_as, takes_both, takes_then}
use Rattle.trace_bytes.proofs.WordsTaken.{takes_byte, takes_host, takes_member, takes_option, takes_row, takes_u64}
use Rattle.trace_bytes.proofs.WordsTaken.{takes_u8, takes_view}

-- ---- signals with their headers

takes_place : Takes IsPlace place_bytes place_at
unfolding place_at
takes_place = takes_as IsPlace place_bytes place_of (takes_both takes_u8 takes_block) (λ x fits. fits) (λ x fits. refl)

takes_header : Takes IsHeader header_bytes header_at
unfolding header_at
takes_header =
    takes_as IsHeader header_bytes header_of
    (takes_both takes_host (takes_both takes_member (takes_both takes_place
    (takes_both takes_u64 (takes_both takes_u64 takes_view)))))
    (λ x fits. (fits.0, fits.1.0, fits.1.1.0, fits.1.1.1.0, fits.1.1.1.1.0, fits.1.1.1.1.1)) (λ x fits. refl)

takes_signal : Takes IsSignal signal_bytes signal_at
unfolding signal_bytes signal_at
takes_signal =
    takes_as IsSignal signal_bytes signal_of (takes_both takes_header takes_body) (λ x fits. fits) (λ x fits. refl)

-- ---- logs

takes_step : Takes IsStep step_bytes step_at
unfolding step_bytes step_at
takes_step =
    takes_as IsStep step_bytes step_of (takes_both takes_u64 (takes_both takes_signal (takes_list takes_mark)))
    (λ x fits. (fits.0, fits.1.0, fits.1.1)) (λ x fits. refl)

takes_log : Takes IsLog log_bytes log_at
unfolding log_bytes log_at
takes_log =
    takes_as IsLog log_bytes log_of (takes_both takes_host (takes_both takes_u64 (takes_list takes_step)))
    (λ x fits. (fits.0, fits.1.0, fits.1.1)) (λ x fits. refl)

-- ---- what hosts found on disks

abbrev IsDivisor : ℕ → ℕ → Type 0
IsDivisor nodes replicas = (1 ≤ replicas) × (replicas ≤ 4) × (nodes % replicas ≡ 0)

divides : (divides : Bool) (nodes left : ℕ) (y x : ℕ × List ℕ) → (nodes % y.0 == 0) ≡ divides
    → (if divides then good y else Err left) ≡ Ok x → (nodes % y.0 ≡ 0) × (y ≡ x)
divides true nodes left y x same e = (eqb-true (nodes % y.0) 0 same, ok_is y x e)
divides false nodes left y x same e = absurd cc

takes_divisor : (nodes : ℕ) → Takes (IsDivisor nodes) (λ replicas. replicas ∷ []) (divisor_at nodes)
unfolding divisor_at
takes_divisor nodes = record {
  takes = λ bytes x are e.
      let first = bind_ok (byte_at 1 4 bytes) (if_divides nodes bytes) x e in
      let a = (reads_byte 1 4).takes bytes first.0 are first.1 in
      let is = divides (nodes % first.0.0 == 0) nodes (length bytes) first.0 x refl first.2 in
      subst (λ (z : ℕ × List ℕ). IsDivisor nodes z.0 × (bytes ≡ (z.0 ∷ []) ++ z.1)) is.1
      ((a.0.0, a.0.1, is.0), a.1);
}

takes_shape : Takes IsShape shape_bytes shape_at
unfolding shape_at
takes_shape =
    takes_as IsShape shape_bytes shape_of
    (takes_then {G = λ nodes p. IsDivisor nodes p.0 × ((1 ≤ p.1) × (p.1 ≤ 32))} (takes_byte 1 8)
    (λ nodes is. takes_both (takes_divisor nodes) (takes_byte 1 32)))
    (λ x fits. (
      fits.0.0,
      fits.0.1,
      fits.1.0.0,
      fits.1.0.1,
      fits.1.0.2,
      fits.1.1.0,
      fits.1.1.1,
    ))
    (λ x fits. refl)

takes_system : Takes IsSystem system_bytes system_at
unfolding system_at
takes_system =
    takes_as IsSystem system_bytes system_of
    (takes_both takes_shape (takes_both takes_u8 (takes_both takes_u64 takes_u64)))
    (λ x fits. (fits.0, fits.1.0, fits.1.1.0, fits.1.1.1)) (λ x fits. refl)

takes_opt_system : Takes (IsOption IsSystem) opt_system_bytes opt_system_at
unfolding opt_system_at
takes_opt_system = takes_option takes_system

takes_control : Takes IsControl control_bytes control_at
unfolding control_at
takes_control =
    takes_as IsControl control_bytes control_of
    (takes_both (takes_byte 2 3) (takes_both (takes_byte 0 1) (takes_both takes_u64 (takes_both takes_u64
    (takes_both takes_u64 (takes_both takes_u64 (takes_both takes_u64 takes_u64)))))))
    (λ x fits. (
      fits.0.0,
      fits.0.1,
      fits.1.0.1,
      fits.1.1.0,
      fits.1.1.1.0,
      fits.1.1.1.1.0,
      fits.1.1.1.1.1.0,
      fits.1.1.1.1.1.1.0,
      fits.1.1.1.1.1.1.1,
    ))
    (λ x fits. refl)

takes_opt_control : Takes (IsOption IsControl) opt_control_bytes opt_control_at
unfolding opt_control_at
takes_opt_control = takes_option takes_control

-- a byte 0
takes_zero : Takes (λ byte. byte ≡ 0) (λ byte. 0 ∷ []) (byte_at 0 0)
takes_zero = record {
  takes = λ bytes x are e.
      let a = (reads_byte 0 0).takes bytes x are e in
      let is : x.0 ≡ 0 = omega (arith, a.0.1) in
      (is, a.1 ∙ ap (λ (n : ℕ). (n ∷ []) ++ x.1) is);
}

takes_slots : Takes IsSlots slots_bytes slots_at
unfolding slots_bytes slots_at
takes_slots =
    takes_as IsSlots slots_bytes slots_of
    (takes_both takes_host (takes_both (takes_byte 0 1) (takes_both takes_opt_system (takes_both (takes_byte 0 1)
    (takes_both takes_opt_control takes_zero)))))
    (λ x fits. (fits.0, fits.1.0.1, fits.1.1.0, fits.1.1.1.0.1, fits.1.1.1.1.0, refl)) (λ x fits. refl)

-- ---- lives

starts : (starts : Bool) (left : ℕ) (y x : ℕ × List ℕ) → nat_lt y.0 LAST_START ≡ starts
    → (if starts then good y else Err left) ≡ Ok x → (nat_lt y.0 LAST_START ≡ true) × (y ≡ x)
starts true left y x same e = (same, ok_is y x e)
starts false left y x same e = absurd cc

takes_start : Takes (λ epoch. epoch < LAST_START) u64_bytes start_epoch_at
unfolding start_epoch_at
takes_start = record {
  takes = λ bytes x are e.
      let first = bind_ok (u64_at bytes) (if_starts bytes) x e in
      let a = takes_u64.takes bytes first.0 are first.1 in
      let is = starts (nat_lt first.0.0 LAST_START) _ first.0 x refl first.2 in
      let below : first.0.0 < LAST_START = ltb-true first.0.0 LAST_START is.0 in
      subst (λ (z : ℕ × List ℕ). (z.0 < LAST_START) × (bytes ≡ u64_bytes z.0 ++ z.1)) is.1 (below, a.1);
}

takes_life : Takes IsLife life_bytes life_at
unfolding life_bytes life_at
takes_life =
    takes_as IsLife life_bytes life_of
    (takes_both takes_start (takes_both (takes_list takes_row)
    (takes_both (takes_list takes_log) (takes_list takes_slots))))
    (λ x fits. (fits.0, fits.1.0, fits.1.1.0, fits.1.1.1)) (λ x fits. refl)

all_read : {A : Type 0} (bytes : List ℕ) (read : Result (A × List ℕ) ℕ) (x : A) → whole bytes read ≡ Ok x
    → read ≡ Ok (x, [])
all_read {A = A} bytes (Ok (y, [])) x e = ap (λ (z : A). good {A = A × List ℕ} (z, [])) (ok_is y x e)
all_read bytes (Ok (y, byte ∷ rest)) x e = absurd cc
all_read bytes (Err left) x e = absurd cc

pub read_is_written : ReadIsWritten
unfolding read_of trace_of trace_at
read_is_written bytes shape life are e =
    let found = (takes_both takes_shape takes_life).takes bytes ((shape, life), []) are
    (all_read bytes (trace_at bytes) (shape, life) e) in
    (found.0.0, found.0.1, found.1 ∙ append-nil (shape_bytes shape ++ life_bytes life))
