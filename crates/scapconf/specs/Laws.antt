use Rattle.std.specs.Prelude.{◌≡◌, ◌⊎◌, ℕ, List}
use Rattle.scapconf.specs.declared.settings.Settings.{Settings}
use Rattle.scapconf.specs.declared.settings_error.SettingsKind.{SettingsKind}
use Rattle.scapconf.specs.Faults.{IsFault}
use Rattle.scapconf.specs.Says.{Reads}

-- What follows from the definitions.

abbrev pub HasOneMeaning : List ℕ → Type 0
HasOneMeaning text = (s t : Settings) → Reads text s → Reads text t → s ≡ t

abbrev pub HasOneFault : List ℕ → Type 0
HasOneFault text = (n m : ℕ) (k j : SettingsKind) → IsFault text n k → IsFault text m j → (n ≡ m) × (k ≡ j)

-- settings or a fault, and not both
pub record IsReadOrRefused (text : List ℕ) : Type 0 where
  pub one : ((s : Settings) × Reads text s) ⊎ ((n : ℕ) × (k : SettingsKind) × IsFault text n k)
  pub apart : (s : Settings) (n : ℕ) (k : SettingsKind) → Reads text s → ¬ IsFault text n k
