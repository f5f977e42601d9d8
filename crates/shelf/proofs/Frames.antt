-- Reads and writes leave a tray's shape and flags, and reads its blocks.
use Rattle.std.proofs.Common.{◌≡◌, ℕ, List, refl, ap, ◌∙◌}
use Rattle.tray.specs.Meaning.{Meaning, tallied, stored}
use Rattle.law.specs.Holding.{SameFrame, Calm}

pub frame_none : (m : Meaning) → SameFrame m m
frame_none m = record { shape = record { wide = refl; tall = refl; deep = refl }; answers = refl }

pub frame_twice : (m m' m'' : Meaning) → SameFrame m m' → SameFrame m' m'' → SameFrame m m''
frame_twice m m' m'' g h =
    record {
      shape = record {
        wide = h.shape.wide ∙ g.shape.wide;
        tall = h.shape.tall ∙ g.shape.tall;
        deep = h.shape.deep ∙ g.shape.deep;
      };
      answers = h.answers ∙ g.answers;
    }

-- of an equal tray
frame_is : (m m' m'' : Meaning) → SameFrame m m' → m'' ≡ m' → SameFrame m m''
frame_is m m' m'' h e =
    record {
      shape = record {
        wide = ap (λ t. t.columns) e ∙ h.shape.wide;
        tall = ap (λ t. t.rows) e ∙ h.shape.tall;
        deep = ap (λ t. t.size) e ∙ h.shape.deep;
      };
      answers = ap (λ t. t.answers) e ∙ h.answers;
    }

-- one more read, and one more write
pub frame_read : (m m' m'' : Meaning) (c : ℕ) → SameFrame m m' → m'' ≡ tallied m' c → SameFrame m m''
frame_read m m' m'' c h e = frame_is m (tallied m' c) m'' (record { shape = record { wide = h.shape.wide; tall = h.shape.tall; deep = h.shape.deep }; answers = h.answers }) e

pub frame_written : (m m' m'' : Meaning) (c i : ℕ) (block : List ℕ) → SameFrame m m' → m'' ≡ stored m' c i block → SameFrame m m''
frame_written m m' m'' c i block h e =
    frame_is m (stored m' c i block) m'' (record { shape = record { wide = h.shape.wide; tall = h.shape.tall; deep = h.shape.deep }; answers = h.answers }) e

pub calm_read : (m m' m'' : Meaning) (c : ℕ) → Calm m m' → m'' ≡ tallied m' c → Calm m m''
calm_read m m' m'' c h e = record { frame = frame_read m m' m'' c h.frame e; block = ap (λ t. t.block) e ∙ h.block }
