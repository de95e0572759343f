-- A signal that is sent to a peer, by its place in the list.
use Rattle.std.proofs.Common.{◌≡◌, ℕ, zero, suc, ◌<◌, Bool, true, false, List, [], ◌∷◌, length, None, Some}
use Rattle.std.proofs.Common.{refl, sym, ap, ◌∙◌, subst, inl, inr, arith}
use Rattle.std.specs.Prelude.{if◌then◌else◌, ◌==◌, map, slice_index_or, slice_set}
use Rattle.std.specs.List.{position_or_len}
use Rattle.std.proofs.lemmas.Bool.{cases_lt, lt-ltb}
use Rattle.std.proofs.lemmas.List.Quantifiers.{position-Some}
use Rattle.std.proofs.lemmas.List.Sums.{fails_before_first}
use Rattle.sig_core.specs.declared.signal.Signal.{Signal}
use Rattle.peer_lists.specs.declared.sending.Sending.{Sending}
use Rattle.peer_lists.specs.Peers.{AreSameLinks, PeerState, delivered, is_peer, own_of, peer_to, place_of, placed}
use Rattle.peer_lists.specs.Peers.{sent_by, taken_by, with_signal}
use Rattle.peer_lists.specs.Waiting.{Waiting, all_sent, sent_if}

module _ {P : Type 0} (state : P → PeerState) where
  -- none of the first so many is host j
  abbrev NoneBefore : ℕ → List P → P → ℕ → Type 0
  NoneBefore j peers d at = (k : ℕ) → k < at → is_peer j (state (slice_index_or peers k d)) ≡ false

  -- the first peer that is host j, by its place
  peer_at : (j : ℕ) (peers : List P) (at : ℕ) (d : P) → at < length peers
      → is_peer j (state (slice_index_or peers at d)) ≡ true → NoneBefore j peers d at
      → peer_to (map state peers) j ≡ Some (state (slice_index_or peers at d))
  peer_at j [] at d inside is none = absurd (omega arith)
  peer_at j (p ∷ peers) zero d inside is none = rw is refl
  peer_at j (p ∷ peers) (suc at) d inside is none =
      rw (none zero (omega arith))
      (peer_at j peers at d (omega arith) is (λ k below. none (suc k) (omega arith)))

  pub peer_found : (peers : List P) (j at : ℕ) (d : P) → place_of state peers j ≡ Some at
      → peer_to (map state peers) j ≡ Some (state (slice_index_or peers at d))
  peer_found peers j at d found =
      let is = position-Some (λ p. is_peer j (state p)) peers at d found in
      peer_at j peers at d is.0 is.1 is.2

  -- it gets a signal
  placed_set : (x : Sending) (peers : List P) (at : ℕ) (d p : P) → at < length peers
      → is_peer x.to.0 (state (slice_index_or peers at d)) ≡ true → NoneBefore x.to.0 peers d at
      → state p ≡ with_signal x.signal (state (slice_index_or peers at d))
      → map state (slice_set peers at p) ≡ placed x (map state peers)
  placed_set x [] at d p inside is none gets = absurd (omega arith)
  placed_set x (q ∷ peers) zero d p inside is none gets =
      rw is (ap (λ (s : PeerState). s ∷ map state peers) gets)
  placed_set x (q ∷ peers) (suc at) d p inside is none gets =
      rw (none zero (omega arith))
      (ap (λ ps. state q ∷ ps)
      (placed_set x peers at d p (omega arith) is (λ k below. none (suc k) (omega arith)) gets))

  pub placed_at : (peers : List P) (x : Sending) (at : ℕ) (d p : P) → place_of state peers x.to.0 ≡ Some at
      → state p ≡ with_signal x.signal (state (slice_index_or peers at d))
      → map state (slice_set peers at p) ≡ placed x (map state peers)
  placed_at peers x at d p found gets =
      let is = position-Some (λ p. is_peer x.to.0 (state p)) peers at d found in
      placed_set x peers at d p is.0 is.1 is.2 gets

  -- none of them is host j
  abbrev NoneIs : ℕ → List P → Type 0
  NoneIs j peers = (k : ℕ) (d : P) → k < length peers → is_peer j (state (slice_index_or peers k d)) ≡ false

  some_none : (at : ℕ) → Some at ≡ None → ⊥
  some_none at same = absurd cc

  none_is : (peers : List P) (j : ℕ) → place_of state peers j ≡ None → NoneIs j peers
  none_is peers j none k d inside = elim (cases_lt (position_or_len (λ p. is_peer j (state p)) peers) (length peers)) [
    | inl low ↦
        absurd (some_none (position_or_len (λ p. is_peer j (state p)) peers)
        (rw (lt-ltb (position_or_len (λ p. is_peer j (state p)) peers) (length peers) low) at none))
    | inr past ↦ fails_before_first (λ p. is_peer j (state p)) peers k d (omega arith)
  ]

  no_peer_of : (peers : List P) (j : ℕ) → NoneIs j peers → peer_to (map state peers) j ≡ None
  no_peer_of [] j none = refl
  no_peer_of (p ∷ peers) j none =
      rw (none zero p (omega arith)) (no_peer_of peers j (λ k d inside. none (suc k) d (omega arith)))

  -- where there is no place there is no peer
  pub no_peer : (peers : List P) (j : ℕ) → place_of state peers j ≡ None → peer_to (map state peers) j ≡ None
  no_peer peers j none = no_peer_of peers j (none_is peers j none)

  nobody_gets : (x : Sending) (peers : List P) → NoneIs x.to.0 peers → map state peers ≡ placed x (map state peers)
  nobody_gets x [] none = refl
  nobody_gets x (p ∷ peers) none =
      rw (none zero p (omega arith))
      (ap (λ ps. state p ∷ ps) (nobody_gets x peers (λ k d inside. none (suc k) d (omega arith))))

  -- and nobody gets a signal
  pub placed_nowhere : (peers : List P) (x : Sending) → place_of state peers x.to.0 ≡ None
      → map state peers ≡ placed x (map state peers)
  placed_nowhere peers x none = nobody_gets x peers (none_is peers x.to.0 none)

  -- a peer is seen as it was
  pub same_at : (peers : List P) (at : ℕ) (d p : P) → state p ≡ state (slice_index_or peers at d)
      → map state (slice_set peers at p) ≡ map state peers
  same_at [] at d p same = refl
  same_at (q ∷ peers) zero d p same = ap (λ s. s ∷ map state peers) same
  same_at (q ∷ peers) (suc at) d p same = ap (λ ps. state q ∷ ps) (same_at peers at d p same)

-- what is in the links is as it was
pub links_same : (ps : List PeerState) → AreSameLinks ps ps
links_same ps = record { hosts = refl; sent = λ j. refl; taken = λ j. refl }

pub links_then : {ps qs rs : List PeerState} → AreSameLinks ps qs → AreSameLinks qs rs → AreSameLinks ps rs
links_then first later =
    record {
      hosts = later.hosts ∙ first.hosts;
      sent = λ j. later.sent j ∙ first.sent j;
      taken = λ j. later.taken j ∙ first.taken j;
    }

-- and so it is behind one signal more
first_links : (x : Signal) (p : PeerState) (ps : List PeerState) → AreSameLinks (p ∷ ps) (with_signal x p ∷ ps)
first_links x p ps = record { hosts = refl; sent = λ j. sent_in (is_peer j p) j; taken = λ j. taken_in (is_peer j p) j }
  where
    sent_in : (b : Bool) (j : ℕ)
        → sent_by (if b then Some (with_signal x p) else peer_to ps j) ≡ sent_by (if b then Some p else peer_to ps j)
    sent_in true j = refl
    sent_in false j = refl

    taken_in : (b : Bool) (j : ℕ)
        → taken_by (if b then Some (with_signal x p) else peer_to ps j) ≡ taken_by (if b then Some p else peer_to ps j)
    taken_in true j = refl
    taken_in false j = refl

later_links : (p : PeerState) (ps qs : List PeerState) → AreSameLinks ps qs → AreSameLinks (p ∷ ps) (p ∷ qs)
later_links p ps qs same =
    record {
      hosts = ap (λ (hosts : List ℕ). p.host ∷ hosts) same.hosts;
      sent = λ j. sent_in (is_peer j p) j;
      taken = λ j. taken_in (is_peer j p) j;
    }
  where
    sent_in : (b : Bool) (j : ℕ)
        → sent_by (if b then Some p else peer_to qs j) ≡ sent_by (if b then Some p else peer_to ps j)
    sent_in true j = refl
    sent_in false j = same.sent j

    taken_in : (b : Bool) (j : ℕ)
        → taken_by (if b then Some p else peer_to qs j) ≡ taken_by (if b then Some p else peer_to ps j)
    taken_in true j = refl
    taken_in false j = same.taken j

pub placed_links : (x : Sending) (ps : List PeerState) → AreSameLinks ps (placed x ps)
placed_links x [] = links_same []
placed_links x (p ∷ ps) = go (is_peer x.to.0 p) (placed_links x ps)
  where
    go : (b : Bool) → AreSameLinks ps (placed x ps)
        → AreSameLinks (p ∷ ps) (if b then with_signal x.signal p ∷ ps else p ∷ placed x ps)
    go true later = first_links x.signal p ps
    go false later = later_links p ps (placed x ps) later

pub delivered_links : (h : ℕ) (xs : List Sending) (ps : List PeerState) → AreSameLinks ps (delivered h xs ps)
delivered_links h [] ps = links_same ps
delivered_links h (x ∷ xs) ps =
    links_then (one (x.to.0 == h)) (delivered_links h xs (if x.to.0 == h then ps else placed x ps))
  where
    one : (b : Bool) → AreSameLinks ps (if b then ps else placed x ps)
    one true = links_same ps
    one false = placed_links x ps

-- what is left once a signal was sent to a peer leads to the same as all did
pub one_delivered : (h : ℕ) (x : Sending) (xs ys : List Sending) (own : Waiting) (ps qs : List PeerState) → ys ≡ x ∷ xs
    → (x.to.0 == h) ≡ false → qs ≡ placed x ps
    → (own_of h xs own ≡ own_of h ys own) × (delivered h xs qs ≡ delivered h ys ps) × AreSameLinks ps qs
one_delivered h x xs ys own ps qs left other is = (
  sym (ap (λ (zs : List Sending). own_of h zs own) left
      ∙ ap (λ (b : Bool). all_sent false h xs (if b then sent_if false x.signal own else own)) other),
  ap (delivered h xs) is
      ∙ sym (ap (λ (zs : List Sending). delivered h zs ps) left
      ∙ ap (λ (b : Bool). delivered h xs (if b then ps else placed x ps)) other),
  subst (AreSameLinks ps) (sym is) (placed_links x ps),
)
