-- One of the API's transactions, among the others.
use Rattle.std.proofs.Common.{◌≡◌, ◌⊎◌, ℕ, Bool, true, false, List, [], ◌∷◌, ◌++◌, length, cond, refl, sym, ap, ◌∙◌}
use Rattle.std.proofs.Common.{subst, inl, inr, arith}
use Rattle.std.proofs.lemmas.Bool.Decides.{nat_tests}
use Rattle.std.specs.List.{prefix_len}
use Rattle.std.specs.Prelude.{Option, None, Some, nat_lt, not, position, slice_get}
use Rattle.run_theory.specs.Lists.{Each, IsIn}
use Rattle.sig_core.specs.declared.member.TxId.{TxId}
use Rattle.api_block.specs.declared.opened.Doing.{Doing}
use Rattle.api_block.specs.declared.opened.OpenTransaction.{OpenTransaction}
use Rattle.api_block.specs.Opened.{has_tx, if_there, where_at, is_beginning, is_named, is_tx}
use Rattle.host_laws.proofs.api.Begins.{same_name-is}
use Rattle.run_theory.proofs.Focus.{IsFocus, found}
use Rattle.host_laws.proofs.coordinator.Moves.{same_tx-is}
use Rattle.command_laws.proofs.hosts.ApiChanges.{IsOneOf}
use Rattle.command_laws.specs.Served.{named_in}

-- one of these is the transaction, has the name, and does this
pub record HasOne (tx : TxId) (name : Option ℕ) (doing : Doing) (opened : List OpenTransaction) : Type 0 where
  pub item : OpenTransaction
  pub inside : IsIn item opened
  pub own : item.tx ≡ Some tx
  pub called : item.name ≡ name
  pub does : item.doing ≡ doing

-- none of these is beginning
abbrev pub NoneBegins : List OpenTransaction → Type 0
NoneBegins opened = Each (λ (t : OpenTransaction). is_beginning t.doing ≡ false) opened

-- an item stands apart from the one that is looked at, whatever that becomes
pub record IsApart (x : OpenTransaction) (front back : List OpenTransaction) : Type 0 where
  pub kept : (u : OpenTransaction) → IsIn x (front ++ u ∷ back)
  pub left : IsIn x (front ++ back)

apart_here : (x : OpenTransaction) (front : List OpenTransaction) (t : OpenTransaction) (back : List OpenTransaction)
    → IsIn x (front ++ t ∷ back) → (x ≡ t) ⊎ IsApart x front back
apart_here x [] t back (inl same) = inl same
apart_here x [] t back (inr rest) = inr (record { kept = λ u. inr rest; left = rest })
apart_here x (y ∷ front) t back (inl same) = inr (record { kept = λ u. inl same; left = inl same })
apart_here x (y ∷ front) t back (inr rest) = by (apart_here x front t back rest)
  where
    by : (x ≡ t) ⊎ IsApart x front back → (x ≡ t) ⊎ IsApart x (y ∷ front) back
    by (inl same) = inl same
    by (inr others) = inr (record { kept = λ u. inr (others.kept u); left = inr others.left })

-- it is the one that is looked at, or another
pub here_or_apart : (x : OpenTransaction) (opened : List OpenTransaction) (one : IsOneOf opened) → IsIn x opened
    → (x ≡ one.t) ⊎ IsApart x one.front one.back
here_or_apart x opened one inside = apart_here x one.front one.t one.back (subst (IsIn x) one.is inside)

-- what has the transaction's number is that transaction
pub same_number : (tx one : TxId) (t : OpenTransaction) → t.tx ≡ Some tx → has_tx one t ≡ true → one ≡ tx
same_number tx one t is has = sym (same_tx-is tx one (sym (ap (is_tx one) is) ∙ has))

-- the first of a name, at its place
pub record IsNamed (opened : List OpenTransaction) (name : ℕ) (t : OpenTransaction) : Type 0 where
  pub at : ℕ
  pub place : position (is_named (Some name)) opened ≡ Some at
  pub get : slice_get opened at ≡ Some t
  pub focus : IsFocus (is_named (Some name)) opened at
  pub item : focus.item ≡ t
  pub called : t.name ≡ Some name

pub named_found : (opened : List OpenTransaction) (name : ℕ) (t : OpenTransaction) → named_in opened name ≡ Some t
    → IsNamed opened name t
named_found opened name t = go (nat_lt n (length opened)) refl
  where
    n : ℕ
    n = prefix_len (λ (x : OpenTransaction). not (is_named (Some name) x)) opened

    at_place : (f : IsFocus (is_named (Some name)) opened n) → nat_lt n (length opened) ≡ true
        → if_there None (λ (t : OpenTransaction). Some t) (slice_get opened n) ≡ Some t → IsNamed opened name t
    at_place f low is =
        let both : Some f.item ≡ Some t = sym (ap (if_there None (λ (x : OpenTransaction). Some x)) f.get) ∙ is in
        let same : f.item ≡ t = cc in
        record {
          at = n;
          place = ap (λ b. cond b (Some n) None) low;
          get = f.get ∙ both;
          focus = f;
          item = same;
          called = ap (λ (x : OpenTransaction). x.name) (sym same) ∙ same_name-is f.item.name (Some name) f.passes;
        }

    go : (b : Bool) → nat_lt n (length opened) ≡ b
        → where_at opened None (λ at (x : OpenTransaction). Some x) (cond b (Some n) None) ≡ Some t
        → IsNamed opened name t
    go true e is = at_place (found (is_named (Some name)) opened (grind (arith, nat_tests, e))) e is
    go false e is = cc
