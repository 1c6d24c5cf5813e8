-- An S record notes no BM: reading it leaves the first BM as it was. Assumes nothing.
use mathlib.Core.Path.{◌≡◌, refl, ap, sym, ◌∙◌}
use mathlib.Core.Bool.{Bool, true, false}
use mathlib.Core.List.{List, [], ◌∷◌}
use Prim.Native.Nat.{ℕ, zero, suc, ◌+◌}
use Prim.Native.String.{String}
use Rattle.std.specs.Prelude.{Ok}
use Rattle.names.specs.Names.{Bytes, ascii, same}
use Rattle.names.specs.Refusals.{place_at}
use Rattle.records.specs.declared.Scan.{Scan}
use Rattle.records.specs.Records.{mark_width, Sexp}
use Rattle.records.specs.Read.{Context, sexp_rule, cons_rule, sexp_at}
use Rattle.records.specs.ReadFields.{Input, Fault, malformed, over_limit, Read, done, refused, Reader, ◌>>=◌, ret, refuse, check, times, next, bytes, choose, marked, counted, integer}
use Rattle.records.specs.Scan.{input_at, Reads}
use Rattle.records.proofs.Readers.{not_done, same_input}
use Rattle.records.proofs.Exact.{exact_sexp_at}
use Rattle.records.proofs.Scans.{taken}

-- what m reads leaves the first BM as it was
record Unnoted {A : Type 0} (m : Reader A) : Type 0 where
  stays : (c : Context) (i : Input) (a : A) (j : Input) → m c i ≡ done a j → j.first_mod ≡ i.first_mod

unnoted_ret : {A : Type 0} (a : A) → Unnoted (ret a)
unfolding ret
unnoted_ret a = record { stays = λ c i b j h. ap (λ (k : Input). k.first_mod) (sym (same_input h)) }

unnoted_refuse : {A : Type 0} (n : Fault) → Unnoted {A = A} (refuse n)
unfolding refuse
unnoted_refuse n = record { stays = λ c i b j h. absurd (not_done h) }

module _ {A B : Type 0} {m : Reader A} {k : A → Reader B} where
  unnoted_bind : Unnoted m → ((a : A) → Unnoted (k a)) → Unnoted (m >>= k)
  unfolding ◌>>=◌
  unnoted_bind em ek = record { stays = λ c i b j h. go c i b j (m c i) refl h }
    where
      go : (c : Context) (i : Input) (b : B) (j : Input) (r : Read A) → m c i ≡ r
          → ◌≡◌ {A = Read B} (elim r [ done a l ↦ k a c l | refused n p ↦ refused n p ]) (done b j) → j.first_mod ≡ i.first_mod
      go c i b j (done a l) e h = (ek a).stays c l b j h ∙ em.stays c i a l e
      go c i b j (refused n p) e h = absurd (not_done h)

unnoted_check : {A : Type 0} {m : Reader A} (n : Fault) (ok : Bool) → Unnoted m → Unnoted (check n ok m)
unfolding check
unnoted_check n true e = record { stays = λ c i b j h. e.stays c i b j h }
unnoted_check n false e = record { stays = λ c i b j h. absurd (not_done h) }

unnoted_next : Unnoted next
unfolding next
unnoted_next = record { stays = λ c i b j h. go c i b j i.rest h }
  where
    go : (c : Context) (i : Input) (b : ℕ) (j : Input) (r : Bytes)
        → ◌≡◌ {A = Read ℕ} (elim r [ [] ↦ refused malformed (place_at c.mark) | x ∷ xs ↦ done x (record { offset = i.offset + 1; rest = xs; first_mod = i.first_mod }) ]) (done b j)
        → j.first_mod ≡ i.first_mod
    go c i b j [] h = absurd (not_done h)
    go c i b j (x ∷ xs) h = ap (λ (k : Input). k.first_mod) (sym (same_input h))

unnoted_bytes : (n : ℕ) → Unnoted (bytes n)
unfolding bytes times
unnoted_bytes zero = unnoted_ret []
unnoted_bytes (suc n) = unnoted_bind unnoted_next λ b. unnoted_bind (unnoted_bytes n) λ bs. unnoted_ret (b ∷ bs)

unnoted_counted : (w : ℕ) → Unnoted (counted w)
unfolding counted
unnoted_counted w = unnoted_bind (unnoted_bytes w) λ b. unnoted_bytes _

unnoted_integer : Unnoted integer
unfolding integer
unnoted_integer = unnoted_bind (unnoted_counted _) λ v. unnoted_check malformed _ (unnoted_ret v)

-- each alternative, after its mark
data AllUnnoted {A : Type 0} : List (String × Reader A) → Type 0 where
  none_left : AllUnnoted []
  also : {s : String} {m : Reader A} {es : List (String × Reader A)} → Unnoted m → AllUnnoted es → AllUnnoted ((s, m) ∷ es)

unnoted_choose : {A : Type 0} {es : List (String × Reader A)} (x : Bytes) → AllUnnoted es → Unnoted (choose x es)
unfolding choose
unnoted_choose x none_left = unnoted_refuse malformed
unnoted_choose {A} x (also {s} {m} {es} e more) = go (same x (ascii s)) (unnoted_choose x more)
  where
    go : (o : Bool) → Unnoted (choose x es) → Unnoted (elim o [ true ↦ m | false ↦ choose x es ])
    go true ih = e
    go false ih = ih

unnoted_marked : {A : Type 0} {es : List (String × Reader A)} → AllUnnoted es → Unnoted (marked es)
unfolding marked
unnoted_marked {es} alts = record { stays = λ c i b j h. (unnoted_bind (unnoted_bytes mark_width) λ x. unnoted_choose x alts).stays _ i b j h }

unnoted_sexp_rule : (cons : Reader Sexp) → Unnoted cons → Unnoted (sexp_rule cons)
unfolding sexp_rule
unnoted_sexp_rule cons e = unnoted_marked
    (also (unnoted_bind (unnoted_bytes _) λ l. unnoted_ret _)
    (also e
    (also (unnoted_bind (unnoted_bytes _) λ l. unnoted_bind unnoted_integer λ v. unnoted_ret _)
    (also (unnoted_bind (unnoted_bytes _) λ l. unnoted_bind unnoted_next λ q. unnoted_bind (unnoted_counted _) λ n. unnoted_ret _)
    (also (unnoted_bind (unnoted_bytes _) λ l. unnoted_bind (unnoted_counted _) λ n. unnoted_ret _)
    none_left)))))

unnoted_sexp_at : (d : ℕ) → Unnoted (sexp_at d)
unfolding sexp_at cons_rule
unnoted_sexp_at zero = unnoted_sexp_rule _ (unnoted_refuse over_limit)
unnoted_sexp_at (suc d) = unnoted_sexp_rule _
    (unnoted_bind (unnoted_bytes _) λ l. unnoted_bind (unnoted_sexp_at d) λ h. unnoted_bind (unnoted_sexp_at d) λ t. unnoted_ret _)

-- the same of the code's reading
pub sexp_unnoted : {mark : ℕ} {c d : Scan} (n : ℕ) → Reads (sexp_at n) mark c (Ok d) → d.first ≡ c.first
unfolding input_at
sexp_unnoted n g = (unnoted_sexp_at n).stays _ _ _ _ (taken (exact_sexp_at n) g).ran
