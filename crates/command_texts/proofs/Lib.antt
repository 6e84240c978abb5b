mod IdLines
