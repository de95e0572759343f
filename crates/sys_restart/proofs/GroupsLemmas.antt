-- The rows of a group, node after node, and the rows of groups, one after the other.
use Rattle.std.proofs.Common.{◌≡◌, ◌∙◌, ℕ, zero, suc, ◌+◌, ◌-◌, ◌*◌, ◌≤◌, ◌<◌, ◌⊎◌, nat_le, Bool, true, false, List, [], ◌∷◌, ◌++◌, refl, ap, sym, subst, arith, inl, inr, if◌then◌else◌}
use Rattle.std.specs.Prelude.{Option, None, Some, Result, Ok, Err}
use Rattle.std.proofs.lemmas.Bool.{le-leb}
use Rattle.sig_core.specs.Table.{Rows}
use Rattle.sig_core.specs.declared.fault.ReadFault.{ReadFault}
use Rattle.sig_core.specs.declared.fault.RestartFault.{RestartFault}
use Rattle.sig_core.specs.declared.slots.ControlSlot.{ControlSlot}
use Rattle.sig_core.specs.declared.slots.SystemSlot.{SystemSlot}
use Rattle.sig_core.specs.declared.view.Shape.{Shape}
use Rattle.sysfile_core.specs.declared.place.TheConstants.{CONTROL_FILE}
use Rattle.sysfile_core.specs.Reading.{control_of_file}
use Rattle.sys_restart.specs.Answers.{is_outside, of_node, on_node}
use Rattle.sys_restart.specs.Files.{Disks, Files}
use Rattle.sys_restart.specs.Groups.{also_on, and_rows, control_on, first_listed, go_on, if_saved, is_listed, joined, rows_among, rows_from, rows_of_group, rows_on, rows_or_at, that_saved}
use Rattle.sys_restart.specs.Lack.{lacking}
use Rattle.sys_restart.specs.Same.{are_same}
use Rattle.sys_restart.proofs.AreSame.{same_rows_are, same_themselves}

-- one less is left behind each, and none behind the last
pub one_less : (all done : ℕ) → done < all → all - done ≡ suc (all - (done + 1))
one_less all done below = omega (arith, below)

pub none_left : (all done : ℕ) → all ≤ done → all - done ≡ 0
none_left all done over = omega (arith, over)

-- the control slot of a node that is listed, and of one that isn't
pub control_listed : (system : SystemSlot) (node : ℕ) (files : Files) (found : Result (Option ControlSlot) RestartFault)
    → is_listed system.mask node ≡ true
    → on_node node (control_of_file system.generation (files CONTROL_FILE)) ≡ found
    → control_on system node files ≡ if_saved system.epoch found
control_listed system node files found so is =
    ap
    (λ (b : Bool).
    if b
    then if_saved system.epoch (on_node node (control_of_file system.generation (files CONTROL_FILE))) else Ok None)
    so
    ∙ ap (if_saved system.epoch) is

pub control_unlisted : (system : SystemSlot) (node : ℕ) (files : Files) → is_listed system.mask node ≡ false
    → control_on system node files ≡ Ok None
control_unlisted system node files not_so =
    ap
    (λ (b : Bool).
    if b
    then if_saved system.epoch (on_node node (control_of_file system.generation (files CONTROL_FILE))) else Ok None)
    not_so

-- a slot that was saved at the epoch, or behind it
pub still_saved : (epoch : ℕ) (slot : ControlSlot) → epoch ≤ slot.saved → that_saved epoch (Some slot) ≡ Some slot
still_saved epoch slot up = ap (λ (b : Bool). if b then Some slot else None) (le-leb epoch slot.saved up)

-- so is that of a node that is listed
pub control_saved : (system : SystemSlot) (node : ℕ) (files : Files) (slot : ControlSlot)
    → is_listed system.mask node ≡ true → control_of_file system.generation (files CONTROL_FILE) ≡ Ok (Some slot)
    → system.epoch ≤ slot.saved → control_on system node files ≡ Ok (Some slot)
control_saved system node files slot so is up =
    control_listed system node files (Ok (Some slot)) so (ap (on_node node) is)
    ∙ ap Ok (still_saved system.epoch slot up)

-- a slot that is looked at is the one in use
pub control_there : (system : SystemSlot) (node : ℕ) (files : Files) (slot : ControlSlot)
    → control_on system node files ≡ Ok (Some slot)
    → control_of_file system.generation (files CONTROL_FILE) ≡ Ok (Some slot)
control_there system node files slot is =
    by (is_listed system.mask node) (control_of_file system.generation (files CONTROL_FILE)) refl is
  where
    kept : (saved : Bool) (found : ControlSlot)
        → ◌≡◌ {A = Result (Option ControlSlot) RestartFault} (Ok (if saved then Some found else None)) (Ok (Some slot))
        → ◌≡◌ {A = Result (Option ControlSlot) ReadFault} (Ok (Some found)) (Ok (Some slot))
    kept true found is = ap (λ (s : ControlSlot). Ok (Some s)) (let same : found ≡ slot = cc in same)
    kept false found is = absurd (let never : ⊥ = cc in never)

    by : (listed : Bool) (found : Result (Option ControlSlot) ReadFault)
        → control_of_file system.generation (files CONTROL_FILE) ≡ found
        → (if listed
        then if_saved system.epoch (on_node node (control_of_file system.generation (files CONTROL_FILE))) else Ok None)
        ≡ Ok (Some slot)
        → control_of_file system.generation (files CONTROL_FILE) ≡ Ok (Some slot)
    by false found e is = absurd (let never : ⊥ = cc in never)
    by true (Err fault) e is =
        absurd
        (let made : ◌≡◌ {A = Result (Option ControlSlot) RestartFault} (Err (of_node node fault)) (Ok (Some slot)) =
        sym (ap (λ read. if_saved system.epoch (on_node node read)) e) ∙ is in
        let never : ⊥ = cc in never)
    by true (Ok None) e is =
        absurd
        (let made : ◌≡◌ {A = Result (Option ControlSlot) RestartFault} (Ok None) (Ok (Some slot)) =
        sym (ap (λ read. if_saved system.epoch (on_node node read)) e) ∙ is in
        let never : ⊥ = cc in never)
    by true (Ok (Some found)) e is =
        e
        ∙ kept (nat_le system.epoch found.saved) found
        (sym (ap (λ read. if_saved system.epoch (on_node node read)) e) ∙ is)

-- of two control files with the same slot in use the same slot is looked at
pub control_alike : (system : SystemSlot) (node : ℕ) (one two : Files) (slot : Option ControlSlot)
    → ((slot : Option ControlSlot) → control_of_file system.generation (one CONTROL_FILE) ≡ Ok slot
    → control_of_file system.generation (two CONTROL_FILE) ≡ Ok slot)
    → control_on system node one ≡ Ok slot → control_on system node two ≡ Ok slot
control_alike system node one two slot alike is =
    by (is_listed system.mask node) (control_of_file system.generation (one CONTROL_FILE)) refl is
  where
    by : (listed : Bool) (found : Result (Option ControlSlot) ReadFault)
        → control_of_file system.generation (one CONTROL_FILE) ≡ found
        → (if listed
        then if_saved system.epoch (on_node node (control_of_file system.generation (one CONTROL_FILE))) else Ok None)
        ≡ Ok slot
        → (if listed
        then if_saved system.epoch (on_node node (control_of_file system.generation (two CONTROL_FILE))) else Ok None)
        ≡ Ok slot
    by false found e is = is
    by true (Err fault) e is =
        absurd
        (let made : ◌≡◌ {A = Result (Option ControlSlot) RestartFault} (Err (of_node node fault)) (Ok slot) =
        sym (ap (λ read. if_saved system.epoch (on_node node read)) e) ∙ is in
        let never : ⊥ = cc in never)
    by true (Ok found) e is =
        ap (λ read. if_saved system.epoch (on_node node read)) (alike found e ∙ sym e) ∙ is

-- rows that were found, and the same of one more node
pub joined_same : (node : ℕ) (files : Files) (rows : Rows) → joined node files (Some rows) (Ok rows) ≡ Ok (Some rows)
joined_same node files rows =
    ap (λ (b : Bool). if b then Ok (Some rows) else Err (lacking node CONTROL_FILE files)) (same_themselves rows)

-- rows that were joined are those that were found before, or those of this node where none were
pub joined_is : (node : ℕ) (files : Files) (found after : Option Rows) (part : Result Rows RestartFault)
    → joined node files found part ≡ Ok after
    → (rows : Rows) × ((part ≡ Ok rows) × ((after ≡ Some rows) × ((found ≡ None) ⊎ (found ≡ Some rows))))
joined_is node files found after (Err fault) is = absurd (let never : ⊥ = cc in never)
joined_is node files None after (Ok rows) is =
    (rows, (refl, (let same : after ≡ Some rows = cc in same, inl refl)))
joined_is node files (Some rows) after (Ok other) is = by (are_same rows other) refl is
  where
    by : (b : Bool) → are_same rows other ≡ b
        → ◌≡◌ {A = Result (Option Rows) RestartFault}
        (if b then Ok (Some rows) else Err (lacking node CONTROL_FILE files)) (Ok after)
        → (part : Rows) × ((◌≡◌ {A = Result Rows RestartFault} (Ok other) (Ok part)) × ((after ≡ Some part)
        × ((◌≡◌ {A = Option Rows} (Some rows) None) ⊎ (Some rows ≡ Some part))))
    by true e is =
        let same : rows ≡ other = same_rows_are rows other e in
        (rows, (ap Ok (sym same), (let kept : after ≡ Some rows = cc in kept, inr refl)))
    by false e is = absurd (let never : ⊥ = cc in never)

-- one more node of a group
pub among_more : (shape : Shape) (disks : Disks) (system : SystemSlot) (node more : ℕ) (found : Option Rows)
    → rows_among shape disks system node (suc more) found
    ≡ go_on (rows_among shape disks system (node + 1) more)
    (also_on shape system node (disks node) found (control_on system node (disks node)))
unfolding rows_among
among_more shape disks system node more found = refl

pub among_ends : (shape : Shape) (disks : Disks) (system : SystemSlot) (node : ℕ) (found : Option Rows)
    → rows_among shape disks system node 0 found ≡ Ok found
unfolding rows_among
among_ends shape disks system node found = refl

next_among : (shape : Shape) (disks : Disks) (system : SystemSlot) (node more less : ℕ) (found : Option Rows)
    (answer : Result (Option Rows) RestartFault) → more ≡ suc less
    → also_on shape system node (disks node) found (control_on system node (disks node)) ≡ answer
    → rows_among shape disks system node more found ≡ go_on (rows_among shape disks system (node + 1) less) answer
next_among shape disks system node more less found answer size is =
    ap (λ (n : ℕ). rows_among shape disks system node n found) size
    ∙ among_more shape disks system node less found
    ∙ ap (go_on (rows_among shape disks system (node + 1) less)) is

pub among_next : (shape : Shape) (disks : Disks) (system : SystemSlot) (node more less : ℕ) (found after : Option Rows)
    → more ≡ suc less
    → also_on shape system node (disks node) found (control_on system node (disks node)) ≡ Ok after
    → rows_among shape disks system (node + 1) less after ≡ rows_among shape disks system node more found
among_next shape disks system node more less found after size is =
    sym (next_among shape disks system node more less found (Ok after) size is)

-- one of which they can't be read, or has others
pub among_stops : (shape : Shape) (disks : Disks) (system : SystemSlot) (node more less : ℕ) (found : Option Rows)
    (fault : RestartFault) (all : Result (Option Rows) RestartFault) → more ≡ suc less
    → (is_outside fault ≡ false
    → also_on shape system node (disks node) found (control_on system node (disks node)) ≡ Err fault)
    → rows_among shape disks system node more found ≡ all → is_outside fault ≡ false → all ≡ Err fault
among_stops shape disks system node more less found fault all size is whole inside =
    sym whole ∙ next_among shape disks system node more less found (Err fault) size (is inside)

pub among_none : (shape : Shape) (disks : Disks) (system : SystemSlot) (node more : ℕ) (found : Option Rows)
    → more ≡ 0 → rows_among shape disks system node more found ≡ Ok found
among_none shape disks system node more found none =
    ap (λ (n : ℕ). rows_among shape disks system node n found) none ∙ among_ends shape disks system node found

-- the first node that is listed
pub listed_here : (mask other node more less : ℕ) → more ≡ suc less → is_listed mask node ≡ true
    → first_listed mask other node more ≡ node
unfolding first_listed
listed_here mask other node zero less size is = absurd (omega (arith, size))
listed_here mask other node (suc more) less size is =
    ap (λ (b : Bool). if b then node else first_listed mask other (node + 1) more) is

pub listed_behind : (mask other node more less : ℕ) → more ≡ suc less → is_listed mask node ≡ false
    → first_listed mask other (node + 1) less ≡ first_listed mask other node more
unfolding first_listed
listed_behind mask other node zero less size is = absurd (omega (arith, size))
listed_behind mask other node (suc more) less size is =
    let same : less ≡ more = omega (arith, size) in
    ap (λ (n : ℕ). first_listed mask other (node + 1) n) same
    ∙ sym (ap (λ (b : Bool). if b then node else first_listed mask other (node + 1) more) is)

pub listed_ends : (mask other node more : ℕ) → more ≡ 0 → first_listed mask other node more ≡ other
unfolding first_listed
listed_ends mask other node zero none = refl
listed_ends mask other node (suc more) none = absurd (omega (arith, none))

-- the rows of a group that has some, of one that has none, and what is wrong with those of its nodes
pub group_found : (shape : Shape) (disks : Disks) (system : SystemSlot) (first : ℕ) (rows : Rows)
    → rows_among shape disks system first shape.replicas None ≡ Ok (Some rows)
    → rows_of_group shape disks system first ≡ Ok rows
group_found shape disks system first rows is =
    ap (rows_or_at disks (first_listed system.mask first first shape.replicas)) is

pub group_lacks : (shape : Shape) (disks : Disks) (system : SystemSlot) (first node : ℕ) (fault : RestartFault)
    → rows_among shape disks system first shape.replicas None ≡ Ok None
    → node ≡ first_listed system.mask first first shape.replicas
    → (is_outside fault ≡ false → fault ≡ lacking node CONTROL_FILE (disks node))
    → is_outside fault ≡ false → rows_of_group shape disks system first ≡ Err fault
group_lacks shape disks system first node fault is at lacks inside =
    ap (rows_or_at disks (first_listed system.mask first first shape.replicas)) is
    ∙ ap (λ (n : ℕ). rows_or_at disks n (Ok None)) (sym at)
    ∙ ap Err (sym (lacks inside))

pub group_fails : (shape : Shape) (disks : Disks) (system : SystemSlot) (first : ℕ) (fault : RestartFault)
    → (is_outside fault ≡ false → rows_among shape disks system first shape.replicas None ≡ Err fault)
    → is_outside fault ≡ false → rows_of_group shape disks system first ≡ Err fault
group_fails shape disks system first fault is inside =
    ap (rows_or_at disks (first_listed system.mask first first shape.replicas)) (is inside)

-- a group that gave rows has them on its nodes
pub group_among : (shape : Shape) (disks : Disks) (system : SystemSlot) (first : ℕ) (part : Rows)
    → rows_of_group shape disks system first ≡ Ok part
    → rows_among shape disks system first shape.replicas None ≡ Ok (Some part)
group_among shape disks system first part is = by (rows_among shape disks system first shape.replicas None) is
  where
    by : (found : Result (Option Rows) RestartFault)
        → rows_or_at disks (first_listed system.mask first first shape.replicas) found ≡ Ok part
        → found ≡ Ok (Some part)
    by (Err fault) is = absurd (let never : ⊥ = cc in never)
    by (Ok None) is = absurd (let never : ⊥ = cc in never)
    by (Ok (Some rows)) is = ap (λ (r : Rows). Ok (Some r)) (let same : rows ≡ part = cc in same)

-- rows that are read under a slot of one of these disks, from one node on and below another
pub record IsOnOne (shape : Shape) (disks : Disks) (system : SystemSlot) (first end : ℕ) (part : Rows) : Type 0 where
  pub node : ℕ
  pub low : first ≤ node
  pub high : node < end
  pub slot : ControlSlot
  pub is : rows_on shape system node (disks node) slot ≡ Ok part

abbrev AreOnOne : Shape → Disks → SystemSlot → ℕ → ℕ → Option Rows → Type 0
AreOnOne shape disks system first end None = Unit {0}
AreOnOne shape disks system first end (Some part) = IsOnOne shape disks system first end part

also_is : (shape : Shape) (disks : Disks) (system : SystemSlot) (first end node : ℕ) (found after : Option Rows)
    → first ≤ node → node < end → AreOnOne shape disks system first end found
    → also_on shape system node (disks node) found (control_on system node (disks node)) ≡ Ok after
    → AreOnOne shape disks system first end after
also_is shape disks system first end node found after low high are is = by (control_on system node (disks node)) is
  where
    by : (slot : Result (Option ControlSlot) RestartFault)
        → also_on shape system node (disks node) found slot ≡ Ok after → AreOnOne shape disks system first end after
    by (Err fault) is = absurd (let never : ⊥ = cc in never)
    by (Ok None) is =
        subst (AreOnOne shape disks system first end) (let same : found ≡ after = cc in same) are
    by (Ok (Some slot)) is =
        let (part, (read, (put, either))) =
        joined_is node (disks node) found after (rows_on shape system node (disks node) slot) is in
        subst (AreOnOne shape disks system first end) (sym put)
        (record { node = node; low = low; high = high; slot = slot; is = read })

among_is : (shape : Shape) (disks : Disks) (system : SystemSlot) (first end node more : ℕ) (found : Option Rows)
    (part : Rows) → first ≤ node → node + more ≤ end → AreOnOne shape disks system first end found
    → rows_among shape disks system node more found ≡ Ok (Some part) → IsOnOne shape disks system first end part
unfolding rows_among
among_is shape disks system first end node zero found part low high are is =
    subst (AreOnOne shape disks system first end) (let same : found ≡ Some part = cc in same) are
among_is shape disks system first end node (suc more) found part low high are is =
    by (also_on shape system node (disks node) found (control_on system node (disks node))) refl is
    (λ next. among_is shape disks system first end (node + 1) more next part (omega (arith, low)) (omega (arith, high)))
  where
    by : (here : Result (Option Rows) RestartFault)
        → also_on shape system node (disks node) found (control_on system node (disks node)) ≡ here
        → go_on (rows_among shape disks system (node + 1) more) here ≡ Ok (Some part)
        → ((next : Option Rows) → AreOnOne shape disks system first end next
        → rows_among shape disks system (node + 1) more next ≡ Ok (Some part)
        → IsOnOne shape disks system first end part)
        → IsOnOne shape disks system first end part
    by (Err fault) e is again = absurd (let never : ⊥ = cc in never)
    by (Ok next) e is again =
        again next (also_is shape disks system first end node found next low (omega (arith, high)) are e) is

-- so are those of a group
pub group_is : (shape : Shape) (disks : Disks) (system : SystemSlot) (first : ℕ) (part : Rows)
    → rows_of_group shape disks system first ≡ Ok part
    → IsOnOne shape disks system first (first + shape.replicas) part
group_is shape disks system first part is =
    among_is shape disks system first (first + shape.replicas) first shape.replicas None part (omega arith)
    (omega arith) tt (group_among shape disks system first part is)

-- one more group
pub rows_fail : (shape : Shape) (disks : Disks) (system : SystemSlot) (group more : ℕ) (fault : RestartFault)
    → rows_from shape disks system group more (Err fault) ≡ Err fault
unfolding rows_from
rows_fail shape disks system group zero fault = refl
rows_fail shape disks system group (suc more) fault = rows_fail shape disks system (group + 1) more fault

next_rows : (shape : Shape) (disks : Disks) (system : SystemSlot) (group more less : ℕ)
    (rows : Result (List Rows) RestartFault) (answer : Result Rows RestartFault)
    → more ≡ suc less → rows_of_group shape disks system (group * shape.replicas + 1) ≡ answer
    → rows_from shape disks system group more rows
    ≡ rows_from shape disks system (group + 1) less (and_rows rows answer)
unfolding rows_from
next_rows shape disks system group zero less rows answer size is = absurd (omega (arith, size))
next_rows shape disks system group (suc more) less rows answer size is =
    let same : more ≡ less = omega (arith, size) in
    ap
    (λ (n : ℕ). rows_from shape disks system (group + 1) n
    (and_rows rows (rows_of_group shape disks system (group * shape.replicas + 1))))
    same
    ∙ ap (λ part. rows_from shape disks system (group + 1) less (and_rows rows part)) is

pub rows_more : (shape : Shape) (disks : Disks) (system : SystemSlot) (group more less : ℕ) (rows all : List Rows)
    (part : Rows)
    → more ≡ suc less → rows_of_group shape disks system (group * shape.replicas + 1) ≡ Ok part
    → all ≡ rows ++ part ∷ []
    → rows_from shape disks system (group + 1) less (Ok all) ≡ rows_from shape disks system group more (Ok rows)
rows_more shape disks system group more less rows all part size is put =
    ap (λ rows. rows_from shape disks system (group + 1) less (Ok rows)) put
    ∙ sym (next_rows shape disks system group more less (Ok rows) (Ok part) size is)

pub rows_stop : (shape : Shape) (disks : Disks) (system : SystemSlot) (group more less : ℕ) (rows : List Rows)
    (fault : RestartFault) (all : Result (List Rows) RestartFault) → more ≡ suc less
    → (is_outside fault ≡ false → rows_of_group shape disks system (group * shape.replicas + 1) ≡ Err fault)
    → rows_from shape disks system group more (Ok rows) ≡ all → is_outside fault ≡ false → all ≡ Err fault
rows_stop shape disks system group more less rows fault all size is whole inside =
    sym whole
    ∙ next_rows shape disks system group more less (Ok rows) (Err fault) size (is inside)
    ∙ rows_fail shape disks system (group + 1) less fault

pub rows_end : (shape : Shape) (disks : Disks) (system : SystemSlot) (group more : ℕ)
    (rows : Result (List Rows) RestartFault) → more ≡ 0 → rows_from shape disks system group more rows ≡ rows
unfolding rows_from
rows_end shape disks system group zero rows none = refl
rows_end shape disks system group (suc more) rows none = absurd (omega (arith, none))
