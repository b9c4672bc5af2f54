-- The file of a field and a wind, from its parts: the wind's section, the tracers' sections, the table, the tail, and what stands behind.
use mathlib.Core.Path.{◌≡◌, refl, sym, ap, ◌∙◌}
use mathlib.Core.List.{List, ◌++◌, append_assoc}
use Prim.Native.Nat.{ℕ, ◌+◌, ◌*◌}
use native.Mathlib.Omega.{arith}
use lib.IntN.{ℤ}
use lib.ListN.{length, drop}
use lib.Seq.{drop-drop}
use Rattle.whole.specs.Table.{overwrite}
use Rattle.whole.proofs.OverwriteLaws.{front-is}
use Rattle.whole.proofs.ListParts.{overwritten}
use Rattle.rules.specs.declared.Shape.{Shape}
use Rattle.rules.specs.declared.Mark.TheVariants.{Plu2}
use Rattle.rules.specs.Field.{quadratic}
use Rattle.rules.specs.FieldFile.{tail, file_of}
use Rattle.file_layout.proofs.FileLaws.{Places, wind_bytes, field_bytes, table_bytes, length-winds, length-numbers, length-offsets, length-file}

joined : (a b c d e : List ℕ) → (a ++ b) ++ (c ++ (d ++ e)) ≡ (a ++ (b ++ (c ++ d))) ++ e
joined a b c d e = simp append_assoc refl

module _ (g : Shape) (file : List ℕ) (tracers table : ℕ) (p : Places quadratic Plu2 g tracers table) where
  -- the parts as they were lent, and as they came back
  pub file-written : (field : List ℕ) (wind : List ℤ) (w₀ s₀ t₀ r₀ w s t y : List ℕ) → length w₀ ≡ tracers → length s₀ + tracers ≡ table → length t₀ ≡ 4 * (g.tracers + 1)
      → r₀ ≡ drop (4 * (g.tracers + 1)) (drop table file) → w ≡ overwrite 0 (wind_bytes g wind) w₀ → s ≡ overwrite 0 (field_bytes quadratic Plu2 g field) s₀ → t ≡ overwrite 0 (table_bytes quadratic Plu2 g) t₀ → y ≡ tail quadratic Plu2 g
      → (w ++ s) ++ (t ++ (y ++ drop 12 r₀)) ≡ overwrite 0 (file_of quadratic Plu2 g field wind) file
  unfolding file_of
  file-written field wind w₀ s₀ t₀ r₀ w s t y lw ls lt lr ew es et ey =
      let a = wind_bytes g wind in
      let b = field_bytes quadratic Plu2 g field in
      let c = table_bytes quadratic Plu2 g in
      let m = 4 * (g.tracers + 1) in
      let end : drop 12 r₀ ≡ drop (length (file_of quadratic Plu2 g field wind)) file =
      ap (drop 12) (lr ∙ drop-drop m table file) ∙ drop-drop 12 (table + m) file ∙ ap (λ n. drop n file) (omega (arith, p.whole, length-file quadratic Plu2 g field wind)) in
      let w= : w ≡ a = ew ∙ overwritten a w₀ (omega (arith, lw, p.winds, length-winds g wind)) in
      let s= : s ≡ b = es ∙ overwritten b s₀ (omega (arith, ls, p.sections, length-numbers quadratic Plu2 g field)) in
      let t= : t ≡ c = et ∙ overwritten c t₀ (omega (arith, lt, length-offsets quadratic Plu2 g)) in
      (λ i. (w= i ++ s= i) ++ (t= i ++ (ey i ++ end i))) ∙ joined a b c (tail quadratic Plu2 g) _ ∙ sym (front-is (file_of quadratic Plu2 g field wind) file)
