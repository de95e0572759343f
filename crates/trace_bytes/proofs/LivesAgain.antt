-- What is written of lives is read again.
use Rattle.std.proofs.Common.{◌≡◌, ℕ, ◌-◌, ◌*◌, ◌%◌, ◌^◌, ◌≤◌, ◌<◌, Bool, true, false, List, [], ◌∷◌, ◌++◌, length}
use Rattle.std.proofs.Common.{refl, ap, sym, ◌∙◌, append-nil, arith}
use Rattle.std.specs.Prelude.{None, Result, Ok, Err, nat_eq, nat_lt, if◌then◌else◌}
use Rattle.std.proofs.lemmas.Bool.{le-ltb, lt-ltb}
use Rattle.std.proofs.Common.{eq-eqb}
use Rattle.trace_bytes.specs.declared.header.Header.{Header}
use Rattle.sig_core.specs.declared.log.Life.{Life}
use Rattle.sig_core.specs.declared.view.Shape.{Shape}
use Rattle.sig_core.specs.declared.slots.Slots.{Slots}
use Rattle.redo_format.specs.Reading.{◌>>=◌, and_then, told, byte_at}
use Rattle.redo_format.proofs.Readers.{reads_byte}
use Rattle.trace_bytes.specs.Numbers.{u8_bytes, IsU8, u8_at, u64_bytes, IsU64, u64_at}
use Rattle.trace_bytes.specs.Words.{option_bytes, IsOption, option_at}
use Rattle.trace_bytes.specs.Lives.{place_bytes, IsPlace, place_of, place_at, signal_bytes, IsSignal, IsHeader}
use Rattle.trace_bytes.specs.Lives.{header_in, header_bytes, header_of, header_at, signal_of, signal_at, step_bytes}
use Rattle.trace_bytes.specs.Lives.{IsStep, step_of, step_at, log_bytes, IsLog, log_of, log_at, shape_bytes, IsShape}
use Rattle.trace_bytes.specs.Lives.{if_divides, divisor_at, shape_of, shape_at, system_bytes, IsSystem, system_of}
use Rattle.trace_bytes.specs.Lives.{system_at, opt_system_bytes, opt_system_at, control_bytes, IsControl, control_of}
use Rattle.trace_bytes.specs.Lives.{control_at, opt_control_bytes, opt_control_at, slots_bytes, IsSlots, slots_of}
use Rattle.trace_bytes.specs.Lives.{slots_at, LAST_START, if_starts, start_epoch_at, life_bytes, IsLife, life_of}
use Rattle.trace_bytes.specs.Lives.{life_at, trace_of, trace_at, whole, read_of}
use Rattle.trace_bytes.specs.Laws.{TracesAreRead, TracesDiffer}
use Rattle.trace_bytes.proofs.Again.{Again, again, again_as, both, from_reads}
use Rattle.trace_bytes.proofs.ListsAgain.{again_list}
use Rattle.trace_bytes.proofs.WordsAgain.{again_u8, again_u64, again_option, again_row, again_host, again_member}
use Rattle.trace_bytes.proofs.WordsAgain.{again_view}
use Rattle.trace_bytes.proofs.PlacesAgain.{again_block}
use Rattle.trace_bytes.proofs.BodiesAgain.{again_body}
use Rattle.trace_bytes.proofs.MarksAgain.{again_mark}

again_place : Again IsPlace place_bytes place_at
unfolding place_at
again_place = again_as IsPlace place_of (λ place. (place.node, place.block)) (both again_u8 again_block)
    (λ place is. is) (λ place is. refl)

again_header : Again IsHeader header_bytes header_at
unfolding header_at
again_header =
    again_as IsHeader header_of (λ h. (h.from, (h.member, (h.to, (h.seq, (h.stamp, h.view))))))
    (both again_host (both again_member (both again_place (both again_u64 (both again_u64 again_view)))))
    (λ h is. (is.0, (is.1, (is.2, (is.3, (is.4, is.5)))))) (λ h is. refl)

again_signal : Again IsSignal signal_bytes signal_at
unfolding signal_bytes signal_at
again_signal =
    again_as IsSignal signal_of (λ signal. (header_in signal, signal.body)) (both again_header again_body)
    (λ signal is. is) (λ signal is. refl)

-- ---- logs

again_step : Again IsStep step_bytes step_at
unfolding step_bytes step_at
again_step =
    again_as IsStep step_of (λ step. (step.stamp, (step.taken, step.marks)))
    (both again_u64 (both again_signal (again_list again_mark)))
    (λ step is. (is.0, (is.1, is.2))) (λ step is. refl)

again_log : Again IsLog log_bytes log_at
unfolding log_bytes log_at
again_log =
    again_as IsLog log_of (λ log. (log.host, (log.made, log.steps)))
    (both again_host (both again_u64 (again_list again_step)))
    (λ log is. (is.0, (is.1, is.2))) (λ log is. refl)

-- ---- what hosts found on disks

within : (least most n : ℕ) → least ≤ n → n ≤ most → (nat_lt n least ≡ false) × (nat_lt most n ≡ false)
within least most n low high = (le-ltb _ _ low, le-ltb _ _ high)

shape_again : (shape : Shape) (rest : List ℕ) → IsShape shape → shape_at (shape_bytes shape ++ rest) ≡ Ok (shape, rest)
unfolding shape_at divisor_at
shape_again shape rest is =
    let nodes = within 1 8 shape.nodes is.0 is.1 in
    let replicas = within 1 4 shape.replicas is.2 is.3 in
    let fragments = within 1 32 shape.fragments is.5 is.6 in
    let whole : nat_eq (shape.nodes % shape.replicas) 0 ≡ true = eq-eqb _ _ is.4 in
    rw (nodes.0, nodes.1, replicas.0, replicas.1, whole, fragments.0, fragments.1) refl

again_shape : Again IsShape shape_bytes shape_at
again_shape = record { reads = shape_again }

again_system : Again IsSystem system_bytes system_at
unfolding system_at
again_system =
    again_as IsSystem system_of (λ slot. (slot.shape, (slot.mask, (slot.generation, slot.epoch))))
    (both again_shape (both again_u8 (both again_u64 again_u64))) (λ slot is. (is.0, (is.1, (is.2, is.3))))
    (λ slot is. refl)

again_at_most : (most : ℕ) → Again (λ n. n ≤ most) (λ n. n ∷ []) (byte_at 0 most)
again_at_most most = from_reads (reads_byte 0 most) (λ n is. (omega arith, is))

again_file : Again (λ n. (2 ≤ n) × (n ≤ 3)) (λ n. n ∷ []) (byte_at 2 3)
again_file = from_reads (reads_byte 2 3) (λ n is. is)

again_control : Again IsControl control_bytes control_at
unfolding control_at
again_control =
    again_as IsControl control_of
    (λ s. (s.ckpt_file, (s.parity, (s.generation, (s.serial, (s.saved, (s.redo_start, (s.redo_end, s.ckpt_size))))))))
    (both again_file (both (again_at_most 1) (both again_u64 (both again_u64
    (both again_u64 (both again_u64 (both again_u64 again_u64)))))))
    (λ s is. ((is.0, is.1), (is.2, (is.3, (is.4, (is.5, (is.6, (is.7, is.8)))))))) (λ s is. refl)

again_opt_system : Again (IsOption IsSystem) opt_system_bytes opt_system_at
unfolding opt_system_at
again_opt_system = again_option again_system

again_opt_control : Again (IsOption IsControl) opt_control_bytes opt_control_at
unfolding opt_control_at
again_opt_control = again_option again_control

without_rows : (slots : Slots) → slots.own ≡ None
    → slots_of (slots.host, (slots.system_at, (slots.system, (slots.control_at, (slots.control, 0))))) ≡ slots
without_rows slots is = ap (λ own. record slots { own = own }) (sym is)

again_slots : Again IsSlots slots_bytes slots_at
unfolding slots_bytes slots_at
again_slots =
    again_as IsSlots slots_of (λ slots. (
      slots.host,
      (
        slots.system_at,
        (slots.system, (slots.control_at, (slots.control, 0))),
      ),
    ))
    (both again_host (both (again_at_most 1) (both again_opt_system
    (both (again_at_most 1) (both again_opt_control (again_at_most 0))))))
    (λ slots is. (is.0, (is.1, (is.2, (is.3, (is.4, omega arith)))))) (λ slots is. without_rows slots is.5)

-- ---- lives

start_again : (epoch : ℕ) (rest : List ℕ) → epoch < LAST_START
    → start_epoch_at (u64_bytes epoch ++ rest) ≡ Ok (epoch, rest)
unfolding start_epoch_at
start_again epoch rest is =
    let below : nat_lt epoch LAST_START ≡ true = lt-ltb _ _ is in
    ap (λ found. found >>= if_starts (u64_bytes epoch ++ rest)) (again_u64.reads epoch rest (omega (arith, is)))
    ∙ rw below refl

again_start : Again (λ epoch. epoch < LAST_START) u64_bytes start_epoch_at
again_start = record { reads = start_again }

again_life : Again IsLife life_bytes life_at
unfolding life_bytes life_at
again_life =
    again_as IsLife life_of (λ life. (life.start_epoch, (life.start_rows, (life.logs, life.slots))))
    (both again_start (both (again_list again_row) (both (again_list again_log) (again_list again_slots))))
    (λ life is. (is.0, (is.1, (is.2, is.3)))) (λ life is. refl)

pub traces_read : TracesAreRead
unfolding read_of trace_of trace_at
traces_read shape life is_shape is_life =
    let bytes = shape_bytes shape ++ life_bytes life in
    let read = (both again_shape again_life).reads (shape, life) [] (is_shape, is_life) in
    let all : trace_at bytes ≡ Ok ((shape, life), []) = ap trace_at (sym (append-nil bytes)) ∙ read in
    ap (whole bytes) all

abbrev read_as : Shape → Life → Result (Shape × Life) ℕ
read_as shape life = Ok (shape, life)

same_parts : (a c : Shape) (b d : Life) → read_as a b ≡ read_as c d → (a ≡ c) × (b ≡ d)
same_parts a c b d e =
    let both_are : ◌≡◌ {A = Shape × Life} (a, b) (c, d) = cc in
    (ap (λ p. p.0) both_are, ap (λ p. p.1) both_are)

pub traces_differ : TracesDiffer
traces_differ one other life further is_one is_life is_other is_further same =
    let to_one = traces_read one life is_one is_life in
    let to_other = ap read_of same ∙ traces_read other further is_other is_further in
    same_parts one other life further (sym to_one ∙ to_other)
