-- The replicas in turn, one turn on.
use Rattle.std.proofs.Common.{◌≡◌, ℕ, ◌+◌, true, false, List, [], ◌∷◌, ◌++◌, take, refl}
use Rattle.std.specs.List.{list_any}
use Rattle.std.proofs.Common.{add-one}
use Rattle.std.proofs.lemmas.List.{append-nil}
use Rattle.sig_core.specs.declared.member.Member.{Member}
use Rattle.sig_core.specs.declared.view.Shape.{Shape}
use Rattle.sig_core.specs.declared.view.View.{View}
use Rattle.frag_map.specs.Replicas.{first_start, in_turn, is_member, node_in_turn}
use Rattle.frag_map.proofs.ListLemmas.{take-take-append}

-- the node in turn is a full member since the life began
pub turn-taken : (shape : Shape) (view : View) (fragment turn : ℕ) (now next : List Member)
    → list_any (is_member (first_start (node_in_turn shape fragment turn))) view.full ≡ true
    → now ≡ take 8 (in_turn shape view fragment turn)
    → next ≡ take 8 (now ++ first_start (node_in_turn shape fragment turn) ∷ [])
    → next ≡ take 8 (in_turn shape view fragment (turn + 1))
turn-taken shape view fragment turn now next is now_is next_is =
    let member = first_start (node_in_turn shape fragment turn) in
    rw (next_is, now_is, add-one turn) (rw is (take-take-append 8 (in_turn shape view fragment turn) (member ∷ [])))

-- it isn't
pub turn-missed : (shape : Shape) (view : View) (fragment turn : ℕ) (now : List Member)
    → list_any (is_member (first_start (node_in_turn shape fragment turn))) view.full ≡ false
    → now ≡ take 8 (in_turn shape view fragment turn)
    → now ≡ take 8 (in_turn shape view fragment (turn + 1))
turn-missed shape view fragment turn now is now_is =
    rw (now_is, add-one turn) (rw is (rw (append-nil (in_turn shape view fragment turn)) refl))

pub ruleset turns = (turn-taken, turn-missed)
