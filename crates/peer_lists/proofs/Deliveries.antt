-- Of what a host sends each peer gets just what is for it.
use Rattle.std.proofs.Common.{◌≡◌, ◌≢◌, ℕ, Bool, true, false, List, [], ◌∷◌, Option, None, Some, refl, sym, ap, ◌∙◌}
use Rattle.std.specs.Prelude.{if◌then◌else◌, ◌==◌}
use Rattle.std.specs.Prelude.{option_map}
use Rattle.std.proofs.lemmas.Bool.{eqb-false, eqb-true, eq-eqb, ne_eqb}
use Rattle.peer_lists.specs.declared.sending.Sending.{Sending}
use Rattle.peer_lists.specs.Peers.{PeerState, delivered, is_peer, peer_to, placed, with_signal, with_signals}
use Rattle.peer_lists.specs.Waiting.{all_sent, sent_if}

-- a peer that is host j, and one signal more
abbrev with_one : ℕ → Sending → PeerState → PeerState
with_one j x p = if x.to.0 == j then with_signal x.signal p else p

-- it gets none that is for another
one_else : (j : ℕ) (x : Sending) (o : Option PeerState) → (x.to.0 == j) ≡ false → o ≡ option_map (with_one j x) o
one_else j x None e = refl
one_else j x (Some p) e = rw e refl

one_placed : (x : Sending) (ps : List PeerState) (j : ℕ)
    → peer_to (placed x ps) j ≡ option_map (with_one j x) (peer_to ps j)
one_placed x [] j = refl
one_placed x (p ∷ ps) j = go (is_peer x.to.0 p) (is_peer j p) refl refl (one_placed x ps j)
  where
    go : (b c : Bool) → is_peer x.to.0 p ≡ b → is_peer j p ≡ c
        → peer_to (placed x ps) j ≡ option_map (with_one j x) (peer_to ps j)
        → peer_to (if b then with_signal x.signal p ∷ ps else p ∷ placed x ps) j
        ≡ option_map (with_one j x) (if c then Some p else peer_to ps j)
    go true true to is later =
        rw is (rw (eq-eqb x.to.0 j (sym (eqb-true p.host x.to.0 to) ∙ eqb-true p.host j is)) refl)
    go true false to is later =
        rw is (one_else j x (peer_to ps j)
        (ne_eqb x.to.0 j (λ same. eqb-false p.host j is (eqb-true p.host x.to.0 to ∙ same))))
    go false true to is later =
        rw is (rw (ne_eqb x.to.0 j (λ same. eqb-false p.host x.to.0 to (eqb-true p.host j is ∙ sym same))) refl)
    go false false to is later = rw is later

-- what it gets of the rest, behind that one
pub then_rest : (j : ℕ) (x : Sending) (xs : List Sending) (p : PeerState)
    → with_signals j xs (with_one j x p) ≡ with_signals j (x ∷ xs) p
then_rest j x xs p = go (x.to.0 == j)
  where
    go : (b : Bool)
        → with_signals j xs (if b then with_signal x.signal p else p)
        ≡ record p {
          waiting = all_sent p.shut j xs (if b then sent_if p.shut x.signal p.waiting else p.waiting);
        }
    go true = refl
    go false = refl

then_all : (j : ℕ) (x : Sending) (xs : List Sending) (o : Option PeerState)
    → option_map (with_signals j xs) (option_map (with_one j x) o) ≡ option_map (with_signals j (x ∷ xs)) o
then_all j x xs None = refl
then_all j x xs (Some p) = ap Some (then_rest j x xs p)

no_more : (j : ℕ) (o : Option PeerState) → o ≡ option_map (with_signals j []) o
no_more j None = refl
no_more j (Some p) = refl

pub peers_get : (h : ℕ) (xs : List Sending) (ps : List PeerState) (j : ℕ) → j ≢ h
    → peer_to (delivered h xs ps) j ≡ option_map (with_signals j xs) (peer_to ps j)
peers_get h [] ps j apart = no_more j (peer_to ps j)
peers_get h (x ∷ xs) ps j apart =
    peers_get h xs (if x.to.0 == h then ps else placed x ps) j apart
    ∙ ap (option_map (with_signals j xs)) (one (x.to.0 == h) refl)
    ∙ then_all j x xs (peer_to ps j)
  where
    one : (b : Bool) → (x.to.0 == h) ≡ b
        → peer_to (if b then ps else placed x ps) j ≡ option_map (with_one j x) (peer_to ps j)
    one true e =
        one_else j x (peer_to ps j) (ne_eqb x.to.0 j (λ same. apart (sym same ∙ eqb-true x.to.0 h e)))
    one false e = one_placed x ps j
