-- The two parts in which most of a package is read and copied: a package has the fields of both.
use Rattle.std.specs.Prelude.{List, Option, option_map}
use Rattle.semver.specs.Identifiers.{parts_of}
use Rattle.serde_json.specs.Data.{Data}
use Rattle.serde_json.specs.View.{view}
use Rattle.krates_cm.specs.Document.{PackageModel, Text, text_view, texts_view, VersionModel}
use Rattle.krates_cm.specs.declared.package_parts.About.{About}
use Rattle.krates_cm.specs.declared.package_parts.Settings.{Settings}
use Rattle.krates_cm.specs.declared.target.Edition.{Edition}

-- what a package says about itself
pub record AboutModel : Type 0 where
  pub authors : List Text
  pub description : Option Text
  pub license : Option Text
  pub license_file : Option Text
  pub categories : List Text
  pub keywords : List Text
  pub readme : Option Text
  pub repository : Option Text
  pub homepage : Option Text
  pub documentation : Option Text

abbrev pub about_view : About → AboutModel
about_view a = record {
  authors = texts_view a.authors;
  description = option_map text_view a.description;
  license = option_map text_view a.license;
  license_file = option_map text_view a.license_file;
  categories = texts_view a.categories;
  keywords = texts_view a.keywords;
  readme = option_map text_view a.readme;
  repository = option_map text_view a.repository;
  homepage = option_map text_view a.homepage;
  documentation = option_map text_view a.documentation;
}

-- what the package says about itself
abbrev pub about_of : PackageModel → AboutModel
about_of p = record {
  authors = p.authors;
  description = p.description;
  license = p.license;
  license_file = p.license_file;
  categories = p.categories;
  keywords = p.keywords;
  readme = p.readme;
  repository = p.repository;
  homepage = p.homepage;
  documentation = p.documentation;
}

-- how a package is built and published
pub record SettingsModel : Type 0 where
  pub edition : Edition
  pub metadata : Data
  pub links : Option Text
  pub publish : Option (List Text)
  pub default_run : Option Text
  pub rust_version : Option VersionModel

abbrev pub settings_view : Settings → SettingsModel
settings_view s = record {
  edition = s.edition;
  metadata = view s.metadata;
  links = option_map text_view s.links;
  publish = option_map texts_view s.publish;
  default_run = option_map text_view s.default_run;
  rust_version = option_map parts_of s.rust_version;
}

-- how the package is built and published
abbrev pub settings_of : PackageModel → SettingsModel
settings_of p = record {
  edition = p.edition;
  metadata = p.metadata;
  links = p.links;
  publish = p.publish;
  default_run = p.default_run;
  rust_version = p.rust_version;
}
