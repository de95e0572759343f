-- What each row keeps of what is known.
use Rattle.std.proofs.Common.{◌≡◌, ◌≤◌, ◌<◌, ◌+◌, ◌&&◌, ℕ, zero, suc, Bool, true, false, not, nat_lt, List, [], ◌∷◌}
use Rattle.std.proofs.Common.{get_or, slice_set, refl, ◌∙◌, arith}
use Rattle.std.proofs.lemmas.Bool.{and_parts, ltb-true, ltb-false, lt-ltb, false≢true}
use Rattle.std.specs.Prelude.{if◌then◌else◌, Option, None, Some}
use Rattle.frag_map.specs.Groups.{lost_group}
use Rattle.sig_core.specs.declared.member.Member.{Member}
use Rattle.sig_core.specs.declared.view.View.{View}
use Rattle.qmgr_block.specs.declared.known.Known.{Known}
use Rattle.qmgr_block.specs.declared.starts.Starts.{Starts}
use Rattle.qmgr_block.specs.declared.starts.TheConstants.{NODES}
use Rattle.qmgr_block.specs.Propose.{greatest_number, has_number, next_number, propose, proposed_by, proposed_if}
use Rattle.qmgr_block.specs.Propose.{proposed_view, remaining_view}
use Rattle.qmgr_block.specs.Sets.{members_of}
use Rattle.qmgr_block.specs.Starts.{all_noted, covers, noted}
use Rattle.qmgr_block.specs.Suspects.{closed_of, is_new, president, presides, told, told_by, told_if, with_closed}
use Rattle.qmgr_block.specs.Suspects.{with_suspect, with_suspects}

-- what was among the starts still is
abbrev pub Holds : Starts → Starts → Type 0
Holds starts later = (member : Member) → covers starts member ≡ true → covers later member ≡ true

-- what is kept: numbers don't fall, starts aren't forgotten, and the last promise isn't below the view where it wasn't
pub record Kept (k l : Known) : Type 0 where
  pub promised : k.promised.number ≤ l.promised.number
  pub proposed : k.proposed ≤ l.proposed
  pub closed : Holds k.closed l.closed
  pub seen : Holds k.seen l.seen
  pub above : k.layout.view.number ≤ k.promised.number → l.layout.view.number ≤ l.promised.number

pub kept_self : (k : Known) → Kept k k
kept_self k = record {
  promised = omega arith;
  proposed = omega arith;
  closed = λ m e. e;
  seen = λ m e. e;
  above = λ below. below;
}

pub kept_on : (k l m : Known) → Kept k l → Kept l m → Kept k m
kept_on k l m one other =
    let p1 : k.promised.number ≤ l.promised.number = one.promised in
    let p2 : l.promised.number ≤ m.promised.number = other.promised in
    let q1 : k.proposed ≤ l.proposed = one.proposed in
    let q2 : l.proposed ≤ m.proposed = other.proposed in
    record {
      promised = omega arith;
      proposed = omega arith;
      closed = λ n e. other.closed n (one.closed n e);
      seen = λ n e. other.seen n (one.seen n e);
      above = λ below. other.above (one.above below);
    }

-- suspects
suspect_if : (k : Known) (suspects : List Member) (new : Bool)
    → Kept k (if new then record k { suspects = suspects } else k)
suspect_if k suspects true = record {
  promised = omega arith;
  proposed = omega arith;
  closed = λ m e. e;
  seen = λ m e. e;
  above = λ below. below;
}
suspect_if k suspects false = kept_self k

pub suspect_kept : (k : Known) (member : Member) → Kept k (with_suspect k member)
unfolding with_suspect
suspect_kept k member = suspect_if k _ (is_new k member)

pub suspects_kept : (k : Known) (members : List Member) → Kept k (with_suspects k members)
unfolding with_suspects
suspects_kept k [] = kept_self k
suspects_kept k (member ∷ members) =
    kept_on k (with_suspect k member) (with_suspects (with_suspect k member) members)
    (suspect_kept k member) (suspects_kept (with_suspect k member) members)

pub closed_kept : (k : Known) → Kept k (with_closed k)
unfolding with_closed
closed_kept k =
    let first = with_suspects k (closed_of k.closed (members_of k.layout.view)) in
    kept_on k first (with_suspects first (closed_of k.closed (members_of k.promised)))
    (suspects_kept k _) (suspects_kept first _)

-- a proposal of a number that isn't below those before
proposing_kept : (k : Known) (view : View) (joining : Option Member) (lost : Option ℕ) → k.proposed ≤ view.number
    → Kept k (proposed_by k view joining lost).state
proposing_kept k view joining lost high = record {
  promised = omega arith;
  proposed = high;
  closed = λ m e. e;
  seen = λ m e. e;
  above = λ below. below;
}

pub proposed_kept : (k : Known) (view : View) (joining : Option Member) → k.proposed ≤ view.number
    → Kept k (proposed_view k view joining).state
unfolding proposed_view
proposed_kept k view joining high = proposing_kept k view joining (lost_group k.layout.shape view) high

greatest_if : (a b : ℕ) (less : Bool) → nat_lt a b ≡ less → b ≤ (if less then b else a)
greatest_if a b true e = omega arith
greatest_if a b false e = ltb-false a b e

pub next_is_high : (k : Known) → k.proposed ≤ next_number k
next_is_high k =
    let great : k.proposed ≤ greatest_number k =
    greatest_if k.promised.number k.proposed (nat_lt k.promised.number k.proposed) refl in
    omega arith

pub proposed_if_kept : (k : Known) (view : View) (joining : Option Member) (may : Bool) → k.proposed ≤ view.number
    → Kept k (proposed_if k view joining may).state
proposed_if_kept k view joining true high = proposed_kept k view joining high
proposed_if_kept k view joining false high = kept_self k

pub propose_kept : (k : Known) → Kept k (propose k).state
unfolding propose
propose_kept k = proposed_if_kept k (remaining_view k) None (has_number k) (next_is_high k)

told_by_kept : (k : Known) (own joined : Bool) (president : Option Member)
    → Kept k (told_by k joined own president).state
told_by_kept k own false president = kept_self k
told_by_kept k true true president = propose_kept k
told_by_kept k false true None = kept_self k
told_by_kept k false true (Some member) = kept_self k

pub told_kept : (k : Known) → Kept k (told k).state
unfolding told
told_kept k = told_by_kept k (presides k) k.has_joined (president k)

pub told_if_kept : (k : Known) (changed : Bool) → Kept k (told_if k changed).state
told_if_kept k true = told_kept k
told_if_kept k false = kept_self k

-- from what is known before to what is told of
pub told_on : (k l : Known) (changed : Bool) → Kept k l → Kept k (told_if l changed).state
told_on k l changed kept = kept_on k l (told_if l changed).state kept (told_if_kept l changed)

-- starts
grows : (xs : List ℕ) (i v j : ℕ) → get_or xs i 0 ≤ v → get_or xs j 0 ≤ get_or (slice_set xs i v) j 0
grows [] i v j low = omega arith
grows (x ∷ xs) zero v zero low = low
grows (x ∷ xs) zero v (suc j) low = omega arith
grows (x ∷ xs) (suc i) v zero low = omega arith
grows (x ∷ xs) (suc i) v (suc j) low = grows xs i v j low

not_so : (b : Bool) → not b ≡ true → b ≡ false
not_so true e = absurd (false≢true e)
not_so false e = refl

noted_if : (starts : Starts) (member : Member) (may : Bool)
    → (nat_lt member.node NODES && not (covers starts member)) ≡ may
    → Holds starts (if may then record { ends = slice_set starts.ends member.node (member.start + 1) } else starts)
unfolding covers
noted_if starts member true e other is =
    let parts = and_parts (nat_lt member.node NODES) (not (covers starts member)) e in
    let low : get_or starts.ends member.node 0 ≤ member.start =
    ltb-false member.start (get_or starts.ends member.node 0) (not_so (covers starts member) parts.1) in
    let more : get_or starts.ends other.node 0
    ≤ get_or (slice_set starts.ends member.node (member.start + 1)) other.node 0 =
    grows starts.ends member.node (member.start + 1) other.node (omega arith) in
    let before : other.start < get_or starts.ends other.node 0 =
    ltb-true other.start (get_or starts.ends other.node 0) is in
    lt-ltb other.start (get_or (slice_set starts.ends member.node (member.start + 1)) other.node 0) (omega arith)
noted_if starts member false e other is = is

pub noted_holds : (starts : Starts) (member : Member) → Holds starts (noted starts member)
unfolding noted
noted_holds starts member = noted_if starts member (nat_lt member.node NODES && not (covers starts member)) refl

pub all_noted_holds : (starts : Starts) (members : List Member) → Holds starts (all_noted starts members)
unfolding all_noted
all_noted_holds starts [] other is = is
all_noted_holds starts (member ∷ members) other is =
    all_noted_holds (noted starts member) members other (noted_holds starts member other is)

-- suspects leave the last promise as it was
suspect_promised_if : (k : Known) (suspects : List Member) (new : Bool)
    → (if new then record k { suspects = suspects } else k).promised ≡ k.promised
suspect_promised_if k suspects true = refl
suspect_promised_if k suspects false = refl

pub suspect_promised : (k : Known) (member : Member) → (with_suspect k member).promised ≡ k.promised
unfolding with_suspect
suspect_promised k member = suspect_promised_if k _ (is_new k member)

pub suspects_promised : (k : Known) (members : List Member) → (with_suspects k members).promised ≡ k.promised
unfolding with_suspects
suspects_promised k [] = refl
suspects_promised k (member ∷ members) =
    suspects_promised (with_suspect k member) members ∙ suspect_promised k member
