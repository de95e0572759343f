-- What becomes of prepared images of which the latest lies apart.
use Rattle.std.proofs.Common.{◌≡◌, ◌∙◌, ℕ, cond, List, ◌∷◌, ◌&&◌, sym, ap}
use Rattle.std.specs.Prelude.{Option, Some}
use Rattle.std.specs.Cmp.Lexicographic.{nat_list_eq_equiv}
use Rattle.sig_core.specs.Same.{same_key, same_tx}
use Rattle.sig_core.proofs.TxLemmas.{same_tx-swap}
use Rattle.redo_log.specs.declared.image_id.ImageId.{ImageId}
use Rattle.redo_log.specs.Replaying.{Images, image_at, same_id}
use Rattle.redo_log.specs.Latest.{with_latest}

swap : (a b : ImageId) → same_id a b ≡ same_id b a
swap a b =
    ap (λ t. t && same_key a.key b.key) (same_tx-swap a.tx b.tx)
    ∙ ap (λ k. same_tx b.tx a.tx && k) (nat_list_eq_equiv.symm a.key b.key)

-- the image in front, or one behind it
in_front : (e : ImageId × Option (List ℕ)) (es : Images) (q : ImageId)
    → image_at (e ∷ es) q ≡ cond (same_id e.0 q) (Some e.1) (image_at es q)
in_front e es q = ap (λ b. cond b (Some e.1) (image_at es q)) (swap q e.0)

-- one is put in front of those that were there, and the latest of these goes to the others
pub put_first : (e : ImageId × Option (List ℕ)) (latest : Option (ImageId × Option (List ℕ))) (es more : Images)
    → ((q : ImageId) → image_at more q ≡ image_at (with_latest latest es) q)
    → (q : ImageId)
    → image_at (with_latest (Some e) more) q ≡ cond (same_id e.0 q) (Some e.1) (image_at (with_latest latest es) q)
put_first e latest es more is q = in_front e more q ∙ ap (cond (same_id e.0 q) (Some e.1)) (is q)

-- the latest is put to the others
pub put_behind : (before : ImageId × Option (List ℕ)) (es more : Images)
    → ((q : ImageId) → image_at more q ≡ cond (same_id before.0 q) (Some before.1) (image_at es q))
    → (q : ImageId) → image_at more q ≡ image_at (with_latest (Some before) es) q
put_behind before es more is q = is q ∙ sym (in_front before es q)
