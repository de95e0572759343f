-- Where nobody starts later, who is there is who begins.
use Rattle.std.proofs.Common.{◌≡◌, ℕ, zero, suc, ◌+◌, ◌-◌, ◌*◌, ◌/◌, ◌++◌, List, [], ◌∷◌, length, map, refl, ap, subst}
use Rattle.std.proofs.Common.{◌∙◌, inl, inr, nat_lt, Bool, true, false, not, arith}
use Rattle.std.proofs.lemmas.Bool.{ltb-true}
use Rattle.std.specs.Prelude.{if◌then◌else◌, None, slice_get}
use Rattle.std.proofs.lemmas.List.{append-nil}
use Rattle.frag_map.specs.Layout.{members}
use Rattle.run_theory.specs.Lists.{IsIn}
use Rattle.sig_core.specs.declared.member.Member.{Member}
use Rattle.world_core.proofs.HostNumbers.{members_length}
use Rattle.world_core.specs.Hosts.{first_hosts, hosts}
use Rattle.world_core.specs.Late.{Late}
use Rattle.world_core.specs.Machine.{last_stamp}
use Rattle.world_core.specs.Made.{is_made, last_of, late_at, made_stamp, stamp_of}
use Rattle.world_core.specs.Start.{NobodyStarts, Start, late_members, made}
use Rattle.world_core.specs.Steps.{HostStep}

-- what a law gets of it: the members
pub made_first : (start : Start) → NobodyStarts start → made start ≡ members start.shape.nodes
made_first start nobody =
    ap (λ late. members start.shape.nodes ++ map (λ (l : Late). l.member) late) nobody
    ∙ append-nil (members start.shape.nodes)

-- how many hosts there are
pub hosts_first : (start : Start) → NobodyStarts start → hosts start ≡ first_hosts start
hosts_first start nobody =
    ap (λ ms. length ms * 3 + 1) (made_first start nobody) ∙ ap (λ n. n * 3 + 1) (members_length start.shape.nodes)

-- and whoever is made begins the life
pub made_begins : (start : Start) → NobodyStarts start → (me : Member) → IsIn me (made start)
    → IsIn me (members start.shape.nodes)
made_begins start nobody me there = subst (IsIn me) (made_first start nobody) there

-- no host is one of a later start
pub no_late : (start : Start) → NobodyStarts start → (place : ℕ) → late_at start place ≡ None
no_late start nobody place =
    ap (λ late. if nat_lt place start.shape.nodes then None else slice_get late (place - start.shape.nodes)) nobody
    ∙ by (nat_lt place start.shape.nodes)
  where
    by : (b : Bool) → (if b then None else slice_get {X = Late} [] (place - start.shape.nodes)) ≡ None
    by true = refl
    by false = refl

-- so each is there from the beginning
pub made_at_first : (start : Start) → NobodyStarts start → (h : ℕ) → made_stamp start h ≡ 0
made_at_first start nobody zero = refl
made_at_first start nobody (suc h) = ap stamp_of (no_late start nobody (h / 3))

-- and always
pub all_made : (start : Start) → NobodyStarts start → (h : ℕ) (log : List HostStep) → is_made start h log ≡ true
all_made start nobody h log =
    ap (λ stamp. not (nat_lt (last_of start 0 log) stamp)) (made_at_first start nobody h)
    ∙ by (last_of start 0 log) (nat_lt (last_of start 0 log) 0) refl
  where
    by : (n : ℕ) (b : Bool) → nat_lt n 0 ≡ b → not b ≡ true
    by n true e = absurd (omega (arith, ltb-true n 0 e))
    by n false e = refl

pub last_first : (start : Start) → NobodyStarts start → (h : ℕ) (log : List HostStep)
    → last_of start h log ≡ last_stamp log
last_first start nobody h [] = made_at_first start nobody h
last_first start nobody h (e ∷ log) = refl

-- who begins it is made, whoever starts later
pub begins_made : (start : Start) (me : Member) → IsIn me (members start.shape.nodes) → IsIn me (made start)
begins_made start me there = front (members start.shape.nodes) there
  where
    front : (xs : List Member) → IsIn me xs → IsIn me (xs ++ late_members start)
    front [] there = absurd there
    front (x ∷ xs) (inl same) = inl same
    front (x ∷ xs) (inr behind) = inr (front xs behind)
