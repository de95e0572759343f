-- How many transactions of the API are beginning, step by step.
use Rattle.std.proofs.Common.{◌≡◌, ◌⊎◌, ℕ, ◌+◌, ◌≤◌, List, [], ◌∷◌, ◌++◌, Bool, true, false, refl, ap, sym, ◌∙◌, subst}
use Rattle.std.proofs.Common.{arith, inl, inr}
use Rattle.std.specs.Prelude.{◌==◌, ◌&&◌, nat_lt, Option, None, Some}
use Rattle.std.specs.List.{list_any}
use Rattle.std.proofs.lemmas.Bool.{eqb-true, or_left, or_right, true≢false}
use Rattle.std.proofs.lemmas.Bool.Decides.{nat_tests}
use Rattle.run_theory.proofs.Pasts.{each_after, each_append, each_before, each_in}
use Rattle.run_theory.specs.Lists.{Each, IsIn}
use Rattle.sig_core.specs.declared.member.Member.{Member}
use Rattle.sig_core.specs.declared.member.TxId.{TxId}
use Rattle.sig_core.specs.declared.op.Op.{Op}
use Rattle.sig_core.specs.declared.outs.Outgoing.{Outgoing}
use Rattle.sig_core.specs.declared.signal.Body.{Body}
use Rattle.sig_core.specs.declared.signal.Body.TheVariants.{Client}
use Rattle.sig_core.specs.declared.signal.client.ClientSignal.TheVariants.{TcBeginReq, TcBeginConf, TcBeginRef}
use Rattle.sig_core.specs.declared.view.View.{View}
use Rattle.api_block.specs.declared.opened.OpenTransaction.{OpenTransaction}
use Rattle.api_block.specs.Members.{is_at, is_full, least_from, least_node, lesser, lesser_if}
use Rattle.api_block.specs.Opened.{asked_for, begins, begins_at, has_tx, is_beginning, is_named, is_tx, same_name}
use Rattle.api_block.specs.Requests.{is_request}
use Rattle.api_block.specs.State.{ApiState}
use Rattle.host_laws.proofs.rows.Operations.{left_of, right_of}
use Rattle.host_laws.proofs.api.Moves.{ApiMove, GoesOn, HasBegun, begun_as, ended, ends, goes, is_api_kind, opens}
use Rattle.host_laws.proofs.api.Moves.{refuses, rests}
use Rattle.api_block.proofs.ApiTurns.{IsNew, IsVoid}
use Rattle.host_laws.proofs.hosts.SendKinds.{are_of, none_of}
use Rattle.run_theory.proofs.Tally.{Counted, counted, only_one, tally_append, tally_between}
use Rattle.run_theory.specs.Counts.{one_if, tally}
use Rattle.host_laws.proofs.api.Wishes.{and_false, is_tc, is_wish, reply_of, sends_of, to_node, wish_of}

-- a beginning transaction isn't one that a coordinator has, and is asked for at a full member; one without a name at
-- the least
pub record IsGood (view : View) (t : OpenTransaction) : Type 0 where
  pub fresh : is_beginning t.doing ≡ true → t.tx ≡ None
  pub there : is_beginning t.doing ≡ true → is_full view t.node ≡ true
  pub least : is_beginning t.doing ≡ true → t.name ≡ None → least_node view.full ≡ Some t.node

-- and no name stands twice
pub record AreGood (view : View) (opened : List OpenTransaction) : Type 0 where
  pub each : Each (λ t. IsGood view t) opened
  pub once : (n : ℕ) → tally (is_named (Some n)) opened ≤ 1

pub same_name-is : (a b : Option ℕ) → same_name a b ≡ true → a ≡ b
same_name-is None None e = refl
same_name-is (Some a) (Some b) e = ap (λ n. Some n) (eqb-true a b e)
same_name-is None (Some b) e = cc
same_name-is (Some a) None e = cc

pub same_name-self : (a : Option ℕ) → same_name a a ≡ true
same_name-self None = refl
same_name-self (Some a) = grind (arith, nat_tests)

-- one item becomes another
pub each_changed : {A : Type 0} (P : A → Type 0) (front : List A) (x y : A) (back all : List A)
    → all ≡ front ++ x ∷ back → Each P all → (P x → P y) → Each P (front ++ y ∷ back)
each_changed P front x y back all is each go =
    let whole : Each P (front ++ x ∷ back) = subst (Each P) is each in
    let rest : Each P (x ∷ back) = each_after P front (x ∷ back) whole in
    each_append P front (y ∷ back) (each_before P front (x ∷ back) whole) (go rest.0, rest.1)

-- or is taken out
pub each_less : {A : Type 0} (P : A → Type 0) (front : List A) (x : A) (back all : List A) → all ≡ front ++ x ∷ back
    → Each P all → Each P (front ++ back)
each_less P front x back all is each =
    let whole : Each P (front ++ x ∷ back) = subst (Each P) is each in
    let rest : Each P (x ∷ back) = each_after P front (x ∷ back) whole in
    each_append P front back (each_before P front (x ∷ back) whole) rest.1

-- what stands in the middle
pub each_at : {A : Type 0} (P : A → Type 0) (front : List A) (x : A) (back all : List A) → all ≡ front ++ x ∷ back
    → Each P all → P x
each_at P front x back all is each =
    let rest : Each P (x ∷ back) = each_after P front (x ∷ back) (subst (Each P) is each) in
    rest.0

eqb-self : (n : ℕ) → (n == n) ≡ true
eqb-self n = grind (arith, nat_tests)

least_among : (least : ℕ) (members : List Member)
    → (least_from least members ≡ least) ⊎ (list_any (is_at (least_from least members)) members ≡ true)
least_among least [] = inl refl
least_among least (member ∷ members) = go (nat_lt member.node least) (least_among (lesser least member.node) members)
  where
    go : (b : Bool)
        → (least_from (lesser least member.node) members ≡ lesser_if least member.node b)
        ⊎ (list_any (is_at (least_from (lesser least member.node) members)) members ≡ true)
        → (least_from (lesser least member.node) members ≡ least)
        ⊎ (list_any (is_at (least_from (lesser least member.node) members)) (member ∷ members) ≡ true)
    go true (inl e) = inr (or_left _ _ (ap (λ n. member.node == n) e ∙ eqb-self member.node))
    go false (inl e) = inl e
    go b (inr e) = inr (or_right _ _ e)

least_in : (node : ℕ) (members : List Member) → least_node members ≡ Some node → list_any (is_at node) members ≡ true
unfolding least_node
least_in node [] e = cc
least_in node (member ∷ members) e =
    let same : least_from member.node members ≡ node = cc in
    subst (λ n. list_any (is_at n) (member ∷ members) ≡ true) same (at (least_among member.node members))
  where
    at : (least_from member.node members ≡ member.node)
        ⊎ (list_any (is_at (least_from member.node members)) members ≡ true)
        → list_any (is_at (least_from member.node members)) (member ∷ members) ≡ true
    at (inl f) = or_left _ _ (ap (λ n. member.node == n) f ∙ eqb-self member.node)
    at (inr f) = or_right _ _ f

least_full : (view : View) (node : ℕ) → least_node view.full ≡ Some node → is_full view node ≡ true
least_full view node e = least_in node view.full e

good_new : (s : ApiState) (name : Option ℕ) (node : ℕ) (op : Option Op) → IsNew s name node
    → IsGood s.view (asked_for name node op)
good_new s None node op new = record { fresh = λ e. refl; there = λ e. least_full s.view node new; least = λ e f. new }
good_new s (Some name) node op new = record { fresh = λ e. refl; there = λ e. new.1; least = λ e f. cc }

good_goes : (view : View) (t u : OpenTransaction) → GoesOn t u → IsGood view t → IsGood view u
good_goes view t u go good = record {
  fresh = λ e. go.tx ∙ good.fresh (sym go.begun ∙ e);
  there = λ e. subst (λ n. is_full view n ≡ true) (sym go.node) (good.there (sym go.begun ∙ e));
  least = λ e f. good.least (sym go.begun ∙ e) (sym go.name ∙ f) ∙ ap (λ n. Some n) (sym go.node);
}

good_begun : (view : View) (tx : TxId) (t u : OpenTransaction) → HasBegun tx t u → IsGood view u
good_begun view tx t u begun = record {
  fresh = λ e. absurd (true≢false (sym e ∙ begun.begun));
  there = λ e. absurd (true≢false (sym e ∙ begun.begun));
  least = λ e f. absurd (true≢false (sym e ∙ begun.begun));
}

-- a change that keeps the name keeps names apart
once_changed : (n : ℕ) (front : List OpenTransaction) (t u : OpenTransaction) (back all : List OpenTransaction)
    → all ≡ front ++ t ∷ back → u.name ≡ t.name
    → tally (is_named (Some n)) all ≤ 1 → tally (is_named (Some n)) (front ++ u ∷ back) ≤ 1
once_changed n front t u back all is same few =
    omega (
      arith,
      few,
      tally_between (is_named (Some n)) front t back all is,
      tally_between (is_named (Some n)) front u
          back (front ++ u ∷ back) refl,
      ap (λ o. one_if (same_name o (Some n))) same,
    )

once_less : (n : ℕ) (front : List OpenTransaction) (t : OpenTransaction) (back all : List OpenTransaction)
    → all ≡ front ++ t ∷ back
    → tally (is_named (Some n)) all ≤ 1 → tally (is_named (Some n)) (front ++ back) ≤ 1
once_less n front t back all is few = omega (arith, few, tally_between (is_named (Some n)) front t back all is)

once_more : (s : ApiState) (n : ℕ) (name : Option ℕ) (node : ℕ) (op : Option Op) → IsNew s name node
    → tally (is_named (Some n)) s.opened ≤ 1
    → tally (is_named (Some n)) (s.opened ++ asked_for name node op ∷ []) ≤ 1
once_more s n None node op new few =
    omega (arith, few, tally_append (is_named (Some n)) s.opened (asked_for None node op ∷ []))
once_more s n (Some name) node op new few = go (name == n) refl
  where
    go : (b : Bool) → (name == n) ≡ b → tally (is_named (Some n)) (s.opened ++ asked_for (Some name) node op ∷ []) ≤ 1
    go true e =
        let none : tally (is_named (Some n)) s.opened ≡ 0 =
        subst (λ k. tally (is_named (Some k)) s.opened ≡ 0) (eqb-true name n e) new.0 in
        omega (arith, none, tally_append (is_named (Some n)) s.opened (asked_for (Some name) node op ∷ []), ap one_if e)
    go false e =
        omega (arith, few, tally_append (is_named (Some n)) s.opened (asked_for (Some name) node op ∷ []), ap one_if e)

-- a step leaves the API's transactions good
pub good_move : (s : ApiState) (body : Body) (after : View × List OpenTransaction) (sends : List Outgoing)
    → ApiMove s body after sends → AreGood s.view s.opened → AreGood after.0 after.1
good_move s body after sends (rests is kind void) good =
    subst (λ (a : View × List OpenTransaction). AreGood a.0 a.1) (sym is) good
good_move s body after sends (opens name node op new request is told) good =
    subst (λ (a : View × List OpenTransaction). AreGood a.0 a.1) (sym is) (record {
      each = each_append (λ t. IsGood s.view t) s.opened (asked_for name node op ∷ []) good.each
          (good_new s name node op new, tt);
      once = λ n. once_more s n name node op new (good.once n);
    })
good_move s body after sends (begun_as name tx front t u back about passes begun was is kind) good =
    subst (λ (a : View × List OpenTransaction). AreGood a.0 a.1) (sym is) (record {
      each = each_changed (λ t. IsGood s.view t) front t u back s.opened was good.each
          (λ g. good_begun s.view tx t u begun);
      once = λ n. once_changed n front t u back s.opened was begun.name (good.once n);
    })
good_move s body after sends (goes front t u back go void was is kind) good =
    subst (λ (a : View × List OpenTransaction). AreGood a.0 a.1) (sym is) (record {
      each = each_changed (λ t. IsGood s.view t) front t u back s.opened was good.each (good_goes s.view t u go);
      once = λ n. once_changed n front t u back s.opened was go.name (good.once n);
    })
good_move s body after sends (ends tx front t back about passes was is kind) good =
    subst (λ (a : View × List OpenTransaction). AreGood a.0 a.1) (sym is) (record {
      each = each_less (λ t. IsGood s.view t) front t back s.opened was good.each;
      once = λ n. once_less n front t back s.opened was (good.once n);
    })
good_move s body after sends (refuses name front t back about passes was is kind) good =
    subst (λ (a : View × List OpenTransaction). AreGood a.0 a.1) (sym is) (record {
      each = each_less (λ t. IsGood s.view t) front t back s.opened was good.each;
      once = λ n. once_less n front t back s.opened was (good.once n);
    })

-- what the API sends besides has no wish
no_wish_api : (name : Option ℕ) (body : Body) → is_api_kind body ≡ true → wish_of name body ≡ false
no_wish_api name (Client (TcBeginReq other)) e = cc
no_wish_api name _ e = refl

no_wishes : (name : Option ℕ) (j : ℕ) (sends : List Outgoing) → are_of is_api_kind sends ≡ true
    → sends_of (to_node j (is_wish name)) sends ≡ 0
no_wishes name j sends kind = none_of is_api_kind (to_node j (is_wish name))
    (λ to b k. and_false (to.node == j) (is_tc to.block) (no_wish_api name b k)) sends kind

-- a reply tells truly who sent it, and there is a transaction that it replies to
pub record IsDue (s : ApiState) (body : Body) (from : ℕ) : Type 0 where
  pub told : (name : Option ℕ) (tx : TxId) → body ≡ Client (TcBeginConf name tx) → tx.tc ≡ from
  pub due : (name : Option ℕ) → reply_of name body ≡ true → 1 ≤ tally (begins_at name from) s.opened

-- those that begin at a node are among those that begin
fewer : (name : Option ℕ) (node : ℕ) (xs : List OpenTransaction)
    → tally (begins_at name node) xs ≤ tally (begins name) xs
fewer name node [] = omega arith
fewer name node (t ∷ ts) = go (begins name t) (t.node == node) (fewer name node ts)
  where
    go : (a b : Bool) → tally (begins_at name node) ts ≤ tally (begins name) ts
        → one_if (a && b) + tally (begins_at name node) ts ≤ one_if a + tally (begins name) ts
    go true true less = omega (arith, less)
    go true false less = omega (arith, less)
    go false b less = omega (arith, less)

-- nothing begins that a void reply could be to
void_none : (xs : List OpenTransaction) (name : Option ℕ) (body : Body) (from : ℕ)
    → ((n : Option ℕ) (tx : TxId) → body ≡ Client (TcBeginConf n tx) → tx.tc ≡ from)
    → IsVoid xs body → reply_of name body ≡ true → tally (begins_at name from) xs ≡ 0
void_none xs name (Client (TcBeginConf other tx)) from told void e =
    let there : tx.tc ≡ from = told other tx refl in
    let same : other ≡ name = same_name-is other name e in
    ap (λ n. tally (begins_at n from) xs) (sym same) ∙ ap (λ k. tally (begins_at other k) xs) (sym there) ∙ void
void_none xs name (Client (TcBeginRef other)) from told void e =
    let none : tally (begins name) xs ≡ 0 = subst (λ n. tally (begins n) xs ≡ 0) (same_name-is other name e) void in
    omega (arith, none, fewer name from xs)
void_none xs name _ from told void e = cc

-- no reply comes where it would be void
no_void : (s : ApiState) (name : Option ℕ) (node : ℕ) (body : Body) (from : ℕ) → IsDue s body from
    → IsVoid s.opened body → one_if ((from == node) && reply_of name body) ≡ 0
no_void s name node body from due void = go (from == node) (reply_of name body) refl
  where
    go : (a b : Bool) → reply_of name body ≡ b → one_if (a && b) ≡ 0
    go false b e = refl
    go true false e = refl
    go true true e =
        let some = due.due name e in
        let none = void_none s.opened name body from due.told void e in
        absurd (omega (arith, some, none))

no_reply_ended : (name : Option ℕ) (body : Body) (tx : TxId) → ended body ≡ Some tx → reply_of name body ≡ false
no_reply_ended name (Client (TcBeginConf other t)) tx e = cc
no_reply_ended name (Client (TcBeginRef other)) tx e = cc
no_reply_ended name _ tx e = refl

no_reply_asked : (name : Option ℕ) (body : Body) → is_request body ≡ true → reply_of name body ≡ false
no_reply_asked name (Client (TcBeginConf other t)) e = cc
no_reply_asked name (Client (TcBeginRef other)) e = cc
no_reply_asked name _ e = refl

one_false : (a : Bool) {b : Bool} → b ≡ false → one_if (a && b) ≡ 0
one_false true e = ap one_if e
one_false false e = refl

-- the transaction that a refusal takes out is one of the host that refuses
same_node : (s : ApiState) (from : ℕ) (name : Option ℕ) (t : OpenTransaction) → AreGood s.view s.opened
    → IsIn t s.opened → begins name t ≡ true → 1 ≤ tally (begins_at name from) s.opened
    → t.node ≡ from
same_node s from name t good inside passes some = go name refl
  where
    c : Counted (begins_at name from) s.opened
    c = counted (begins_at name from) s.opened some

    c_begins : begins name c.item ≡ true
    c_begins = left_of (begins name c.item) (c.item.node == from) c.passes

    c_node : c.item.node ≡ from
    c_node = eqb-true c.item.node from (right_of (begins name c.item) (c.item.node == from) c.passes)

    t_name : same_name t.name name ≡ true
    t_name = right_of (is_beginning t.doing) (same_name t.name name) passes

    c_name : same_name c.item.name name ≡ true
    c_name = right_of (is_beginning c.item.doing) (same_name c.item.name name) c_begins

    go : (n : Option ℕ) → name ≡ n → t.node ≡ from
    go (Some n) e =
        let t_is : is_named (Some n) t ≡ true = subst (λ o. same_name t.name o ≡ true) e t_name in
        let c_is : is_named (Some n) c.item ≡ true = subst (λ o. same_name c.item.name o ≡ true) e c_name in
        ap (λ (u : OpenTransaction). u.node)
        (only_one (is_named (Some n)) s.opened t c.item (good.once n) inside c.inside t_is c_is) ∙ c_node
    go None e =
        let g = each_in (λ u. IsGood s.view u) t s.opened good.each inside in
        let h = each_in (λ u. IsGood s.view u) c.item s.opened good.each c.inside in
        let one : least_node s.view.full ≡ Some t.node = g.least
        (left_of (is_beginning t.doing) (same_name t.name name) passes) (same_name-is t.name name t_name ∙ e) in
        let other : least_node s.view.full
        ≡ Some c.item.node = h.least (left_of (is_beginning c.item.doing) (same_name c.item.name name) c_begins)
        (same_name-is c.item.name name c_name ∙ e) in
        let same : t.node ≡ c.item.node = cc in
        same ∙ c_node

pub in_middle : {A : Type 0} (front : List A) (x : A) (back : List A) → IsIn x (front ++ x ∷ back)
in_middle [] x back = inl refl
in_middle (y ∷ front) x back = inr (in_middle front x back)

no_longer : (name : Option ℕ) (node : ℕ) (t : OpenTransaction) → is_beginning t.doing ≡ false
    → one_if (begins_at name node t) ≡ 0
no_longer name node t e = ap (λ b. one_if ((b && same_name t.name name) && (t.node == node))) e

fresh_false : (view : View) (tx : TxId) (t : OpenTransaction) → IsGood view t → has_tx tx t ≡ true
    → is_beginning t.doing ≡ false
fresh_false view tx t good has = go (is_beginning t.doing) refl
  where
    go : (b : Bool) → is_beginning t.doing ≡ b → b ≡ false
    go true e = absurd (true≢false (sym has ∙ ap (is_tx tx) (good.fresh e)))
    go false e = refl

-- so many begin at a node as did before, and were wished for, less those that are replied to
pub count_move : (s : ApiState) (body : Body) (after : View × List OpenTransaction) (sends : List Outgoing) (from : ℕ)
    (name : Option ℕ) (node : ℕ)
    → ApiMove s body after sends → AreGood s.view s.opened → IsDue s body from
    → tally (begins_at name node) after.1 + one_if ((from == node) && reply_of name body)
    ≡ tally (begins_at name node) s.opened + sends_of (to_node node (is_wish name)) sends
count_move s body after sends from name node (rests is kind void) good due =
    omega (
      arith,
      no_void s name node body from due void,
      no_wishes name node sends kind,
      ap
          (λ (a : View × List OpenTransaction). tally (begins_at name node) a.1) is,
    )
count_move s body after sends from name node (goes front t u back go void was is kind) good due =
    omega (
      arith,
      no_void s name node body from due void,
      no_wishes name node sends kind,
      ap (λ (a : View × List OpenTransaction). tally (begins_at name node) a.1) is,
      tally_between (begins_at name node) front t back s.opened was,
      tally_between (begins_at name node) front u back (front ++ u ∷ back) refl,
      ap (λ b. one_if ((b && same_name u.name name) && (u.node == node))) go.begun,
      ap (λ n. one_if ((is_beginning t.doing && same_name n name) && (u.node == node))) go.name,
      ap (λ n. one_if ((is_beginning t.doing && same_name t.name name) && (n == node))) go.node,
    )
count_move s body after sends from name node (ends tx front t back about passes was is kind) good due =
    let g = each_at (λ u. IsGood s.view u) front t back s.opened was good.each in
    omega (
      arith,
      one_false (from == node) (no_reply_ended name body tx about),
      no_wishes name node sends kind,
      ap (λ (a : View × List OpenTransaction). tally (begins_at name node) a.1) is,
      tally_between (begins_at name node) front t back s.opened was,
      no_longer name node t (fresh_false s.view tx t g passes),
    )
count_move s body after sends from name node (opens other at op new request is told) good due =
    omega (
      arith,
      one_false (from == node) (no_reply_asked name body request),
      ap (λ (a : View × List OpenTransaction). tally (begins_at name node) a.1) is,
      tally_append (begins_at name node) s.opened (asked_for other at op ∷ []),
      ap (sends_of (to_node node (is_wish name))) told,
      swapped (same_name other name) (at == node),
    )
  where
    swapped : (a b : Bool) → one_if (a && b) ≡ one_if (b && a)
    swapped true true = refl
    swapped true false = refl
    swapped false true = refl
    swapped false false = refl
count_move s body after sends from name node (begun_as other tx front t u back about passes begun was is kind) good due
    =
    omega (
      arith,
      reply,
      no_wishes name node sends kind,
      ap (λ (a : View × List OpenTransaction). tally (begins_at name node) a.1) is,
      tally_between (begins_at name node) front t back s.opened was,
      tally_between (begins_at name node) front u back (front ++ u ∷ back) refl,
      no_longer name node u begun.begun,
    )
  where
    begins_other : begins other t ≡ true
    begins_other = left_of (begins other t) (t.node == tx.tc) passes

    there : t.node ≡ from
    there = eqb-true t.node tx.tc (right_of (begins other t) (t.node == tx.tc) passes) ∙ due.told other tx about

    called : t.name ≡ other
    called = same_name-is t.name other (right_of (is_beginning t.doing) (same_name t.name other) begins_other)

    swapped : (a b : Bool) → one_if ((true && a) && b) ≡ one_if (b && a)
    swapped true true = refl
    swapped true false = refl
    swapped false true = refl
    swapped false false = refl

    reply : one_if (begins_at name node t) ≡ one_if ((from == node) && reply_of name body)
    reply =
        ap (λ b. one_if ((b && same_name t.name name) && (t.node == node)))
        (left_of (is_beginning t.doing) (same_name t.name other) begins_other)
        ∙ ap (λ n. one_if ((true && same_name n name) && (t.node == node))) called
        ∙ ap (λ n. one_if ((true && same_name other name) && (n == node))) there
        ∙ swapped (same_name other name) (from == node)
        ∙ ap (λ b. one_if ((from == node) && reply_of name b)) (sym about)
count_move s body after sends from name node (refuses other front t back about passes was is kind) good due =
    omega (
      arith,
      reply,
      no_wishes name node sends kind,
      ap (λ (a : View × List OpenTransaction). tally (begins_at name node) a.1) is,
      tally_between (begins_at name node) front t back s.opened was,
    )
  where
    there : t.node ≡ from
    there = same_node s from other t good (subst (IsIn t) (sym was) (in_middle front t back)) passes
        (due.due other (ap (reply_of other) about ∙ same_name-self other))

    called : t.name ≡ other
    called = same_name-is t.name other (right_of (is_beginning t.doing) (same_name t.name other) passes)

    swapped : (a b : Bool) → one_if ((true && a) && b) ≡ one_if (b && a)
    swapped true true = refl
    swapped true false = refl
    swapped false true = refl
    swapped false false = refl

    reply : one_if (begins_at name node t) ≡ one_if ((from == node) && reply_of name body)
    reply =
        ap (λ b. one_if ((b && same_name t.name name) && (t.node == node)))
        (left_of (is_beginning t.doing) (same_name t.name other) passes)
        ∙ ap (λ n. one_if ((true && same_name n name) && (t.node == node))) called
        ∙ ap (λ n. one_if ((true && same_name other name) && (n == node))) there
        ∙ swapped (same_name other name) (from == node)
        ∙ ap (λ b. one_if ((from == node) && reply_of name b)) (sym about)
