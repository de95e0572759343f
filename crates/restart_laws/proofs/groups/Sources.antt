-- The rows of each group are those of one of its nodes, where one is listed and the disks of those that are have the
-- same rows.
use Rattle.std.proofs.Common.{◌≡◌, ◌≤◌, ◌<◌, ◌+◌, ◌*◌, ◌==◌, ◌++◌, ◌∙◌, ℕ, zero, suc, Bool, true, false, List, [], ◌∷◌}
use Rattle.std.proofs.Common.{append_assoc, append-nil, get_or, length, refl, sym, ap, subst, arith}
use Rattle.std.proofs.lemmas.Bool.{true≢false}
use Rattle.std.proofs.lemmas.Bool.Decides.{nat_tests}
use Rattle.std.specs.FinMap as map
use Rattle.std.specs.Prelude.{None, Option, Some, Ok}
use Rattle.frag_map.specs.Shape.{groups}
use Rattle.sig_core.specs.Table.{Rows}
use Rattle.sig_core.specs.declared.slots.ControlSlot.{ControlSlot}
use Rattle.sig_core.specs.declared.slots.SystemSlot.{SystemSlot}
use Rattle.sig_core.specs.declared.view.Shape.{Shape}
use Rattle.sysfile_core.specs.declared.place.TheConstants.{CONTROL_FILE}
use Rattle.sysfile_core.specs.Owner.{owner_of}
use Rattle.sysfile_core.specs.Reading.{control_of_file}
use Rattle.sys_restart.proofs.GroupsLemmas.{among_ends, among_more, control_saved, control_unlisted, joined_same}
use Rattle.sys_restart.proofs.GroupsLemmas.{rows_end, rows_more}
use Rattle.sys_restart.proofs.HeldLemmas.{held_kept, rows_current}
use Rattle.sys_restart.specs.Answers.{on_node}
use Rattle.sys_restart.specs.Files.{Disks}
use Rattle.sys_restart.specs.Groups.{also_on, control_on, first_listed, go_on, if_held, is_listed, joined, rows_among}
use Rattle.sys_restart.specs.Groups.{rows_from, rows_of_group, rows_or_at}
use Rattle.sys_restart.specs.Held.{are_held, are_records_held, records_of}
use Rattle.sys_restart.specs.Outdated.{is_outdated}
use Rattle.sys_restart.specs.Owner.{is_owned}
use Rattle.sys_restart.specs.SlotRows.{rows_of_slot}

-- a node among so many is listed
pub record IsManned (system : SystemSlot) (first count : ℕ) : Type 0 where
  pub node : ℕ
  pub from : first ≤ node
  pub below : node < first + count
  pub listed : is_listed system.mask node ≡ true

-- what is so of a node's rows
module _ (shape : Shape) (disks : Disks) (system : SystemSlot) (Q : ℕ → Rows → Type 0) where
  -- the disk of a node is its own and has rows and redo of its group as of the system slot, and the rows are so
  pub record HasOwnRows (node : ℕ) : Type 0 where
    pub slot : ControlSlot
    pub rows : Rows
    pub owner : is_owned node (owner_of (disks node CONTROL_FILE)) ≡ true
    pub control : control_of_file system.generation (disks node CONTROL_FILE) ≡ Ok (Some slot)
    pub saved : system.epoch ≤ slot.saved
    pub rows_are : rows_of_slot system.epoch (disks node) slot ≡ Ok rows
    pub held : are_held shape node rows ≡ true
    pub logged : are_records_held shape node (records_of (disks node) slot) ≡ true
    pub last : is_outdated system.generation system.epoch (disks node CONTROL_FILE) ≡ false
    pub so : Q node rows

  -- each of so many nodes that is listed has them
  abbrev pub AreOwned : ℕ → ℕ → Type 0
  AreOwned first count =
      (n : ℕ) → first ≤ n → n < first + count → is_listed system.mask n ≡ true → HasOwnRows n

  -- and rows that are so of two of them are the same
  abbrev pub AreSame : ℕ → ℕ → Type 0
  AreSame first count =
      (n m : ℕ) (one other : Rows) → first ≤ n → n < first + count → first ≤ m → m < first + count → Q n one
      → Q m other → one ≡ other

  -- these are the rows of each that is listed
  module _ (part : Rows) where
    record HasPart (node : ℕ) : Type 0 where
      has : HasOwnRows node
      same : has.rows ≡ part

    abbrev HavePart : ℕ → ℕ → Type 0
    HavePart first count =
        (n : ℕ) → first ≤ n → n < first + count → is_listed system.mask n ≡ true → HasPart n

    behind : (node more : ℕ) → HavePart node (suc more) → HavePart (node + 1) more
    behind node more each n from below = each n (omega (arith, from)) (omega (arith, below))

    -- With one more that is listed these are found, where they can be put to what was; with one that isn't, what was.
    part_read : (node : ℕ) (found : Option Rows) → HasPart node → is_listed system.mask node ≡ true
        → joined node (disks node) found (Ok part) ≡ Ok (Some part)
        → also_on shape system node (disks node) found (control_on system node (disks node)) ≡ Ok (Some part)
    part_read node found own listed put =
        ap (also_on shape system node (disks node) found)
        (control_saved system node (disks node) own.has.slot listed own.has.control own.has.saved)
        ∙ ap (joined node (disks node) found)
        (rows_current shape system node (disks node) own.has.slot own.has.owner own.has.last
        ∙ ap (if_held shape node (disks node) own.has.slot) (ap (on_node node) own.has.rows_are)
        ∙ held_kept shape node (disks node) own.has.slot own.has.rows own.has.held own.has.logged
        ∙ ap Ok own.same)
        ∙ put

    unlisted : (node : ℕ) (found : Option Rows) → is_listed system.mask node ≡ false
        → also_on shape system node (disks node) found (control_on system node (disks node)) ≡ Ok found
    unlisted node found off =
        ap (also_on shape system node (disks node) found) (control_unlisted system node (disks node) off)

    -- one more before those on which they are found
    more_among : (node more : ℕ) (found after : Option Rows)
        → also_on shape system node (disks node) found (control_on system node (disks node)) ≡ Ok after
        → rows_among shape disks system (node + 1) more after ≡ Ok (Some part)
        → rows_among shape disks system node (suc more) found ≡ Ok (Some part)
    more_among node more found after here rest =
        among_more shape disks system node more found
        ∙ ap (go_on (rows_among shape disks system (node + 1) more)) here
        ∙ rest

    -- So they are found on all, where they were found before,
    same_among : (node more : ℕ) → HavePart node more
        → rows_among shape disks system node more (Some part) ≡ Ok (Some part)
    same_among node zero each = among_ends shape disks system node (Some part)
    same_among node (suc more) each =
        more_among node more (Some part) (Some part) (by (is_listed system.mask node) refl)
        (same_among (node + 1) more (behind node more each))
      where
        by : (b : Bool) → is_listed system.mask node ≡ b
            → also_on shape system node (disks node) (Some part) (control_on system node (disks node)) ≡ Ok (Some part)
        by true listed =
            part_read node (Some part) (each node (omega arith) (omega arith) listed) listed
            (joined_same node (disks node) part)
        by false off = unlisted node (Some part) off

    -- or where one of them is listed
    part_among : (node more : ℕ) → HavePart node more → IsManned system node more
        → rows_among shape disks system node more None ≡ Ok (Some part)
    part_among node zero each some =
        let from = some.from in let below = some.below in absurd (omega (arith, from, below))
    part_among node (suc more) each some =
        by (is_listed system.mask node) refl (part_among (node + 1) more (behind node more each))
      where
        by : (b : Bool) → is_listed system.mask node ≡ b
            → (IsManned system (node + 1) more
            → rows_among shape disks system (node + 1) more None ≡ Ok (Some part))
            → rows_among shape disks system node (suc more) None ≡ Ok (Some part)
        by true listed rest =
            more_among node more None (Some part)
            (part_read node None (each node (omega arith) (omega arith) listed) listed refl)
            (same_among (node + 1) more (behind node more each))
        by false off rest =
            more_among node more None None (unlisted node None off)
            (rest (record {
              node = some.node;
              from = above (some.node == node) refl;
              below = let below = some.below in omega (arith, below);
              listed = some.listed;
            }))
          where
            above : (b : Bool) → (some.node == node) ≡ b → node + 1 ≤ some.node
            above true e =
                let at : some.node ≡ node = grind (arith, nat_tests, e) in
                absurd (true≢false (sym (subst (λ n. is_listed system.mask n ≡ true) at some.listed) ∙ off))
            above false e = let from = some.from in grind (arith, nat_tests, e, from)

  -- rows are of one of so many nodes
  pub record AreOfOne (first count : ℕ) (part : Rows) : Type 0 where
    pub node : ℕ
    pub from : first ≤ node
    pub below : node < first + count
    pub so : Q node part

  pub record IsGroup (first : ℕ) : Type 0 where
    pub part : Rows
    pub is : rows_of_group shape disks system first ≡ Ok part
    pub of_one : AreOfOne first shape.replicas part

  pub group_is : (first : ℕ) → AreOwned first shape.replicas → AreSame first shape.replicas
      → IsManned system first shape.replicas → IsGroup first
  group_is first each same some =
      let own = each some.node some.from some.below some.listed in
      record {
        part = own.rows;
        is =
            ap (rows_or_at disks (first_listed system.mask first first shape.replicas))
            (part_among own.rows first shape.replicas
            (λ n from below listed.
            let has = each n from below listed in
            record {
              has = has;
              same = same n some.node has.rows own.rows from below some.from some.below has.so own.so;
            })
            some);
        of_one = record { node = some.node; from = some.from; below = some.below; so = own.so };
      }

  -- Of so many groups, from one on, the rows of each are of one of its nodes.
  pub record AreGroups (group more : ℕ) (before : List Rows) : Type 0 where
    pub all : List Rows
    pub is : rows_from shape disks system group more (Ok before) ≡ Ok (before ++ all)
    pub many : length all ≡ more
    pub each :
        (i : ℕ) → i < more → AreOfOne ((group + i) * shape.replicas + 1) shape.replicas (get_or all i map.empty)

  groups_are : (group more : ℕ) (before : List Rows)
      → ((g : ℕ) → group ≤ g → g < group + more → IsGroup (g * shape.replicas + 1))
      → AreGroups group more before
  groups_are group zero before each = record {
    all = [];
    is = rows_end shape disks system group 0 (Ok before) refl ∙ ap Ok (sym (append-nil before));
    many = refl;
    each = λ i below. absurd (omega (arith, below));
  }
  groups_are group (suc more) before each =
      let own = each group (omega arith) (omega arith) in
      with_own own
      (groups_are (group + 1) more (before ++ own.part ∷ [])
      (λ g from below. each g (omega (arith, from)) (omega (arith, below))))
    where
      with_own : (own : IsGroup (group * shape.replicas + 1))
          → AreGroups (group + 1) more (before ++ own.part ∷ []) → AreGroups group (suc more) before
      with_own own rest = record {
        all = own.part ∷ rest.all;
        is =
            sym (rows_more shape disks system group (suc more) more before (before ++ own.part ∷ []) own.part refl
            own.is refl)
            ∙ rest.is
            ∙ ap Ok (append_assoc before (own.part ∷ []) rest.all);
        many = ap suc rest.many;
        each = at;
      }
        where
          at : (i : ℕ) → i < suc more
              → AreOfOne ((group + i) * shape.replicas + 1) shape.replicas (get_or (own.part ∷ rest.all) i map.empty)
          at zero below =
              subst (λ g. AreOfOne (g * shape.replicas + 1) shape.replicas own.part)
              (let e : group ≡ group + 0 = omega arith in e) own.of_one
          at (suc i) below =
              subst (λ g. AreOfOne (g * shape.replicas + 1) shape.replicas (get_or rest.all i map.empty))
              (let e : group + 1 + i ≡ group + suc i = omega arith in e) (rest.each i (omega (arith, below)))

  pub all_groups : ((g : ℕ) → g < groups shape → IsGroup (g * shape.replicas + 1)) → AreGroups 0 (groups shape) []
  all_groups each = groups_are 0 (groups shape) [] (λ g from below. each g (omega (arith, below)))
