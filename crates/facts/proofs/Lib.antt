pub mod FirstStringLaws
